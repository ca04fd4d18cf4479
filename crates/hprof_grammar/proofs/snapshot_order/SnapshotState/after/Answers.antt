-- After segments a dump breaks the order and a segment keeps it. No tag of a snapshot may follow a whole snapshot.
use Rattle.hprof_grammar.proofs.Words.{CanGoOn, Ended, IsAt, SnapshotState, Segments, Whole, [], inl, inr, is_done}
use Rattle.hprof_grammar.proofs.Words.{is_snapshot_tag, refl, subst, sym, true, ℕ, ◌++◌, ◌∷◌, ◌≡◌, ◌⊎◌}
use Rattle.hprof_grammar.proofs.SnapshotOrderLaws.{next_segment, no_dump_in_segments, no_more}
use Rattle.hprof_grammar.proofs.snapshot_order.SnapshotState.after.Goals as goal

-- a dump among segments
pub returns-in-12-tag : goal.returns-in-12-tag
returns-in-12-tag c =
    let order : c.args.self ≡ Segments = c.in-Segments.is in
    λ tags h. let k = subst (λ (o : SnapshotState). IsAt o tags) order h in
    let e : ◌≡◌ {A = ℕ} c.args.tag 0x0C = c.in-12-tag.is in
    λ on. no_dump_in_segments tags k (subst (λ (t : ℕ). CanGoOn (tags ++ t ∷ [])) e on)

pub returns-in-28-tag : goal.returns-in-28-tag
returns-in-28-tag c =
    let order : c.args.self ≡ Segments = c.in-Segments.is in
    let e : ◌≡◌ {A = ℕ} 0x1C c.args.tag = sym c.in-28-tag.is in
    λ tags h. let k = subst (λ (o : SnapshotState). IsAt o tags) order h in
    subst (λ (t : ℕ). IsAt Segments (tags ++ t ∷ [])) e (next_segment tags k)

done_at : (order : SnapshotState) → (order ≡ Whole) ⊎ (order ≡ Ended) → is_done order ≡ true
done_at order h = elim h [ inl e ↦ rw e refl | inr e ↦ rw e refl ]

of_the_snapshot : (tag : ℕ) → (tag ≡ 0x0C) ⊎ ((tag ≡ 0x1C) ⊎ (tag ≡ 0x2C)) → is_snapshot_tag tag ≡ true
of_the_snapshot tag h = elim h [ inl e ↦ rw e refl | inr k ↦ elim k [ inl e ↦ rw e refl | inr e ↦ rw e refl ] ]

-- more after a whole snapshot
pub returns-in-12-tag-2 : goal.returns-in-12-tag-2
returns-in-12-tag-2 c = λ tags h on. no_more c.args.self tags c.args.tag (done_at c.args.self c.in-Whole.is)
    (of_the_snapshot c.args.tag c.in-12-tag-2.is) h on
