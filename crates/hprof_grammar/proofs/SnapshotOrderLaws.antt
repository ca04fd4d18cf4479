-- What the snapshot state says of the tags of the records so far.
use Rattle.hprof_grammar.proofs.Words.{Before, Bool, CanGoOn, Ended, IsAt, IsOrderly, IsSnapshot, List, SnapshotState}
use Rattle.hprof_grammar.proofs.Words.{Segments, Whole, [], add-one, ap, append-nil, append_assoc, arith, cond, false}
use Rattle.hprof_grammar.proofs.Words.{filter-append, inl, inr, is_done, is_snapshot_tag, refl, replicate}
use Rattle.hprof_grammar.proofs.Words.{replicate_more, snapshot_tags, subst, suc, sym, true, zero, ℕ, ◌++◌, ◌∙◌, ◌∷◌}
use Rattle.hprof_grammar.proofs.Words.{◌≡◌, ◌≢◌}

-- ---- repeats of a number, and the number that ends them

module _ (c a d : ℕ) (na : a ≢ c) (nd : d ≢ c) where
  row_end : (n m : ℕ) (xs ys : List ℕ) → replicate n c ++ a ∷ xs ≡ replicate m c ++ d ∷ ys → (a ≡ d) × (xs ≡ ys)
  row_end zero zero xs ys e = (cc, cc)
  row_end zero (suc m) xs ys e = absurd (na (cc))
  row_end (suc n) zero xs ys e = absurd (nd (cc))
  row_end (suc n) (suc m) xs ys e = let tails : replicate n c ++ a ∷ xs ≡ replicate m c ++ d ∷ ys = cc in
      row_end n m xs ys tails

row_no_end : (c d n m : ℕ) (ys : List ℕ) → d ≢ c → replicate n c ≡ replicate m c ++ d ∷ ys → ⊥
row_no_end c d zero zero ys nd e = cc
row_no_end c d zero (suc m) ys nd e = cc
row_no_end c d (suc n) zero ys nd e = nd (cc)
row_no_end c d (suc n) (suc m) ys nd e = let tails : replicate n c ≡ replicate m c ++ d ∷ ys = cc in
    row_no_end c d n m ys nd tails

end_is_no_segment : ◌≢◌ {A = ℕ} 0x2C 0x1C
end_is_no_segment = λ e. omega (arith, e)

end_is_no_dump : ◌≢◌ {A = ℕ} 0x2C 0x0C
end_is_no_dump = λ e. omega (arith, e)

dump_is_no_segment : ◌≢◌ {A = ℕ} 0x0C 0x1C
dump_is_no_segment = λ e. omega (arith, e)

-- ---- one more record

comes : (tags : List ℕ) (tag : ℕ) → is_snapshot_tag tag ≡ true
    → snapshot_tags (tags ++ tag ∷ []) ≡ snapshot_tags tags ++ tag ∷ []
comes tags tag is = filter-append is_snapshot_tag tags (tag ∷ [])
    ∙ ap (λ (b : Bool). snapshot_tags tags ++ cond b (tag ∷ []) []) is

stays_out : (tags : List ℕ) (tag : ℕ) → is_snapshot_tag tag ≡ false
    → snapshot_tags (tags ++ tag ∷ []) ≡ snapshot_tags tags
stays_out tags tag is = filter-append is_snapshot_tag tags (tag ∷ [])
    ∙ ap (λ (b : Bool). snapshot_tags tags ++ cond b (tag ∷ []) []) is ∙ append-nil (snapshot_tags tags)

pub others_keep : (order : SnapshotState) (tags : List ℕ) (tag : ℕ) → is_snapshot_tag tag ≡ false → IsAt order tags
    → IsAt order (tags ++ tag ∷ [])
others_keep Segments tags tag is h = (h.0, stays_out tags tag is ∙ h.1)
others_keep Ended tags tag is h = (h.0, stays_out tags tag is ∙ h.1)
others_keep order tags tag is h = stays_out tags tag is ∙ h

pub whole_comes : (tags : List ℕ) → IsAt Before tags → IsAt Whole (tags ++ 0x0C ∷ [])
whole_comes tags h = comes tags 0x0C refl ∙ ap (λ (front : List ℕ). front ++ 0x0C ∷ []) h

pub first_segment : (tags : List ℕ) → IsAt Before tags → IsAt Segments (tags ++ 0x1C ∷ [])
first_segment tags h = (0, comes tags 0x1C refl ∙ ap (λ (front : List ℕ). front ++ 0x1C ∷ []) h)

pub next_segment : (tags : List ℕ) → IsAt Segments tags → IsAt Segments (tags ++ 0x1C ∷ [])
next_segment tags h = (
  suc h.0,
  comes tags 0x1C refl ∙ ap (λ (front : List ℕ). front ++ 0x1C ∷ []) h.1
      ∙ replicate_more (suc h.0) 0x1C ∙ ap (λ (n : ℕ). replicate n 0x1C) (add-one (suc h.0)),
)

pub segments_end : (tags : List ℕ) → IsAt Segments tags → IsAt Ended (tags ++ 0x2C ∷ [])
segments_end tags h = (h.0, comes tags 0x2C refl ∙ ap (λ (front : List ℕ). front ++ 0x2C ∷ []) h.1)

-- ---- beginnings that no snapshot has

-- more after a heap dump
after_whole : (tag : ℕ) (more : List ℕ) → IsSnapshot (0x0C ∷ tag ∷ more) → ⊥
after_whole tag more (inl e) = cc
after_whole tag more (inr (n, e)) = dump_is_no_segment (cc)

-- an end without segments
end_first : (more : List ℕ) → IsSnapshot (0x2C ∷ more) → ⊥
end_first more (inl e) = end_is_no_dump (cc)
end_first more (inr (n, e)) = end_is_no_segment (cc)

-- a heap dump after segments
dump_in_segments : (n : ℕ) (more : List ℕ) → IsSnapshot (replicate (suc n) 0x1C ++ 0x0C ∷ more) → ⊥
dump_in_segments n more (inl e) = dump_is_no_segment (cc)
dump_in_segments n more (inr (m, e)) =
    end_is_no_dump (sym (row_end 0x1C 0x0C 0x2C dump_is_no_segment end_is_no_segment (suc n) (suc m) more [] e).0)

-- more after segments and their end
after_end : (n tag : ℕ) (more : List ℕ) → IsSnapshot ((replicate (suc n) 0x1C ++ 0x2C ∷ []) ++ tag ∷ more) → ⊥
after_end n tag more (inl e) = dump_is_no_segment (cc)
after_end n tag more (inr (m, e)) =
    let joined = sym (append_assoc (replicate (suc n) 0x1C) (0x2C ∷ []) (tag ∷ more)) ∙ e in
    let none : tag ∷ more ≡ [] =
    (row_end 0x1C 0x2C 0x2C end_is_no_segment end_is_no_segment (suc n) (suc m) (tag ∷ more) [] joined).1 in
    cc

-- ---- a record that breaks the order

-- if the tags can go on after one more, a snapshot begins with them
too_many : (tags front : List ℕ) (tag : ℕ) → is_snapshot_tag tag ≡ true → snapshot_tags tags ≡ front
    → CanGoOn (tags ++ tag ∷ []) → (more : List ℕ) × IsSnapshot (front ++ tag ∷ more)
too_many tags front tag is come (more, orderly) = (snapshot_tags more, subst IsSnapshot parts orderly)
  where
    parts : snapshot_tags ((tags ++ tag ∷ []) ++ more) ≡ front ++ tag ∷ snapshot_tags more
    parts = filter-append is_snapshot_tag (tags ++ tag ∷ []) more
        ∙ ap (λ (l : List ℕ). l ++ snapshot_tags more) (comes tags tag is ∙ ap (λ (l : List ℕ). l ++ tag ∷ []) come)
        ∙ append_assoc front (tag ∷ []) (snapshot_tags more)

pub no_end_first : (tags : List ℕ) → IsAt Before tags → CanGoOn (tags ++ 0x2C ∷ []) → ⊥
no_end_first tags h on = let found = too_many tags [] 0x2C refl h on in end_first found.0 found.1

pub no_dump_in_segments : (tags : List ℕ) → IsAt Segments tags → CanGoOn (tags ++ 0x0C ∷ []) → ⊥
no_dump_in_segments tags h on = let found = too_many tags (replicate (suc h.0) 0x1C) 0x0C refl h.1 on in
    dump_in_segments h.0 found.0 found.1

pub no_more : (order : SnapshotState) (tags : List ℕ) (tag : ℕ) → is_done order ≡ true → is_snapshot_tag tag ≡ true
    → IsAt order tags → CanGoOn (tags ++ tag ∷ []) → ⊥
no_more Whole tags tag done is h on = let found = too_many tags (0x0C ∷ []) tag is h on in
    after_whole tag found.0 found.1
no_more Ended tags tag done is h on = let found = too_many tags (replicate (suc h.0) 0x1C ++ 0x2C ∷ []) tag is h.1 on
    in after_end h.0 tag found.0 found.1
no_more order tags tag done is h on = cc

-- ---- the end of the records

-- tags that lead to a state can go on to an orderly list
pub at_goes_on : (order : SnapshotState) (tags : List ℕ) → IsAt order tags → CanGoOn tags
at_goes_on Before tags h = (0x0C ∷ [], inl (whole_comes tags h))
at_goes_on Whole tags h = ([], inl (ap snapshot_tags (append-nil tags) ∙ h))
at_goes_on Segments tags h = (0x2C ∷ [], inr (segments_end tags h))
at_goes_on Ended tags h = ([], inr (h.0, ap snapshot_tags (append-nil tags) ∙ h.1))

-- tags that lead to a state are orderly exactly if the state is done
pub done_is_orderly : (order : SnapshotState) (tags : List ℕ) → is_done order ≡ true → IsAt order tags → IsOrderly tags
done_is_orderly Whole tags e h = inl h
done_is_orderly Ended tags e h = inr h
done_is_orderly order tags e h = absurd (cc)

nothing_is_none : IsSnapshot [] → ⊥
nothing_is_none (inl e) = cc
nothing_is_none (inr (n, e)) = cc

segments_are_none : (n : ℕ) → IsSnapshot (replicate (suc n) 0x1C) → ⊥
segments_are_none n (inl e) = dump_is_no_segment (cc)
segments_are_none n (inr (m, e)) = row_no_end 0x1C 0x2C (suc n) (suc m) [] end_is_no_segment e

pub not_done_is_not : (order : SnapshotState) (tags : List ℕ) → is_done order ≡ false → IsAt order tags
    → IsOrderly tags → ⊥
not_done_is_not Before tags e h is = nothing_is_none (subst IsSnapshot h is)
not_done_is_not Segments tags e h is = segments_are_none h.0 (subst IsSnapshot h.1 is)
not_done_is_not order tags e h is = cc
