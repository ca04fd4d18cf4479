-- The sub-records that the body of a heap record begins with.
use Rattle.hprof_grammar.proofs.Words.{AddsSubs, Err, Flaw, FormatFault, HasSubFault, IsSubRecord, Kind, List}
use Rattle.hprof_grammar.proofs.Words.{LongestSubs, Ok, Places, Result, Some, SubRecord, [], ap, append-nil}
use Rattle.hprof_grammar.proofs.Words.{append_assoc, arith, behind, filter-append, flat_map, flat_map-append, flaw_code}
use Rattle.hprof_grammar.proofs.Words.{kind_of, length, length-append, map-append, noted, option_and_then, placed_subs}
use Rattle.hprof_grammar.proofs.Words.{refl, root, slice_get, spelling_of, sub_kind, sub_record_at, subst, sym}
use Rattle.hprof_grammar.proofs.Words.{with_subs, ℕ, ◌++◌, ◌+◌, ◌-◌, ◌<◌, ◌∙◌, ◌∷◌, ◌≡◌, ◌≤◌}
use Rattle.hprof_grammar.specs.SubRecord.{tag_of}
use Rattle.hprof_grammar.proofs.Bytes.{IsBytes, bytes-behind}
use Rattle.hprof_grammar.proofs.Fields.{all_join}
use Rattle.hprof_grammar.proofs.Fronts.{longest_front, same_fronts}
use Rattle.hprof_grammar.proofs.SubRecords.{sub_again, sub_fails, sub_takes, subs_determined}
use Rattle.hprof_grammar.proofs.TableLaws.{kind_says}

abbrev texts : ℕ → List SubRecord → List ℕ
texts s subs = flat_map (spelling_of s) subs

pub one_longest_subs : {s : ℕ} {body : List ℕ} {subs others : List SubRecord} {rest left : List ℕ}
    → LongestSubs s body subs rest → LongestSubs s body others left → (subs ≡ others) × (rest ≡ left)
one_longest_subs {s} {subs = subs} {others} {rest} {left} h k =
    let most : length others ≤ length subs = h.longest others left k.parts k.each in
    let most_too : length subs ≤ length others = k.longest subs rest h.parts h.each in
    same_fronts (spelling_of s) (IsSubRecord s) (subs_determined s) subs others rest left (omega arith) h.each k.each
    (sym h.parts ∙ k.parts)

-- ---- what is read

behind_ok : {A : Type 0} (r : Result (A × List ℕ) Flaw) (left : List ℕ) → behind r ≡ Ok left → (x : A)
    × (r ≡ Ok (x, left))
behind_ok (Ok x) left e = let same : x.1 ≡ left = cc in (x.0, rw same refl)
behind_ok (Err f) left e = absurd (cc)

behind_err : {A : Type 0} (r : Result (A × List ℕ) Flaw) (flaw : Flaw) → behind r ≡ Err flaw → r ≡ Err flaw
behind_err (Ok x) flaw e = absurd (cc)
behind_err (Err f) flaw e = let same : f ≡ flaw = cc in ap Err same

-- ---- places join

placed_more : (s at : ℕ) (subs : List SubRecord) (x : SubRecord)
    → placed_subs s at (subs ++ x ∷ []) ≡ placed_subs s at subs ++ (at + length (texts s subs), x) ∷ []
placed_more s at [] x = let e : at ≡ at + 0 = omega arith in ap (λ (n : ℕ). (n, x) ∷ []) e
placed_more s at (y ∷ subs) x =
    let e : at + length (spelling_of s y) + length (texts s subs) ≡ at + length (spelling_of s y ++ texts s subs) =
    omega (arith, length-append (spelling_of s y) (texts s subs)) in
    ap (λ (l : List (ℕ × SubRecord)). (at, y) ∷ l) (placed_more s (at + length (spelling_of s y)) subs x
    ∙ ap (λ (n : ℕ). placed_subs s (at + length (spelling_of s y)) subs ++ (n, x) ∷ []) e)

-- a sub-record is noted by the kind that its tag says
kind_noted : (x : SubRecord) (p : Places) (at : ℕ) → noted p (sub_kind x) at ≡ with_subs p at (x ∷ [])
kind_noted (root r) p at = rw (append-nil p.objects) refl
kind_noted x p at = rw (append-nil p.roots) refl

-- ---- the loop over the sub-records, after it has noted `adds.subs`: at each turn, and at a flaw

module _ {at : ℕ} {body rest : List ℕ} {old new : Places} (adds : AddsSubs at body rest old new) where
  abbrev come : List ℕ
  come = texts old.id_size adds.subs

  pub subs_left : IsBytes body → IsBytes rest
  subs_left h = bytes-behind come rest (subst IsBytes adds.parts h)

  abbrev pub reached : ℕ
  reached = at + (length body - length rest)

  reached_is : reached ≡ at + length come
  reached_is = omega (arith, ap length adds.parts, length-append come rest)

  -- one more sub-record that follows them
  pub step_more : {left : List ℕ} {x : SubRecord} → IsSubRecord old.id_size x
      → rest ≡ spelling_of old.id_size x ++ left → AddsSubs at body left old (noted new (sub_kind x) reached)
  step_more {left} {x} is here =
      let s = old.id_size in
      let more : with_subs old at (adds.subs ++ x ∷ []) ≡ with_subs (with_subs old at adds.subs) reached (x ∷ []) =
      rw reached_is (simp (placed_more, filter-append, map-append, append_assoc)) in
      record {
        subs = adds.subs ++ x ∷ [];
        parts = adds.parts ∙ ap (λ (l : List ℕ). come ++ l) here ∙ simp (flat_map-append, append_assoc, append-nil);
        each = all_join (IsSubRecord s) adds.subs (x ∷ []) adds.each (is, tt);
        joined = ap (λ (p : Places). noted p (sub_kind x) reached) adds.joined
            ∙ kind_noted x (with_subs old at adds.subs) reached ∙ sym more;
      }

  pub sub_shorter : {left : List ℕ} → IsBytes body → behind (sub_record_at old.id_size rest) ≡ Ok left
      → length left < length rest
  sub_shorter {left} h e =
      let x = behind_ok (sub_record_at old.id_size rest) left e in
      let t = sub_takes old.id_size rest (x.0, left) (subs_left h) x.1 in
      omega (arith, ap length t.bytes_are, length-append (spelling_of old.id_size x.0) left)

  pub subs_step : {left : List ℕ} {kind : Kind} → IsBytes body → behind (sub_record_at old.id_size rest) ≡ Ok left
      → option_and_then kind_of (slice_get rest 0) ≡ Some kind → AddsSubs at body left old (noted new kind reached)
  subs_step {left} {kind} h read says =
      let x = behind_ok (sub_record_at old.id_size rest) left read in
      let t = sub_takes old.id_size rest (x.0, left) (subs_left h) x.1 in
      let first : slice_get rest 0 ≡ Some (tag_of x.0) = ap (λ (l : List ℕ). slice_get l 0) t.bytes_are in
      let here : kind_of (tag_of x.0) ≡ Some kind = rw first at says in
      let same : sub_kind x.0 ≡ kind = (let both = sym (kind_says x.0) ∙ here in cc) in
      subst (λ (k : Kind). AddsSubs at body left old (noted new k reached)) same (step_more t.is t.bytes_are)

  pub subs_fault : {flaw : Flaw} {fault : FormatFault} → IsBytes body → 0 < length rest
      → behind (sub_record_at old.id_size rest) ≡ Err flaw → fault.code ≡ flaw_code flaw → fault.offset ≡ reached
      → HasSubFault old.id_size at body fault
  subs_fault {flaw} h some read code place =
      let s = old.id_size in
      let flawed = behind_err (sub_record_at s rest) flaw read in
      let none : (z : SubRecord) (left : List ℕ) → IsSubRecord s z → rest ≡ spelling_of s z ++ left → ⊥ =
      λ z left is e. (let both = sym flawed ∙ ap (sub_record_at s) e ∙ sub_again s z left is in cc) in
      record {
        subs = adds.subs;
        rest = rest;
        longest = record {
          parts = adds.parts;
          each = adds.each;
          longest = λ others left e all. longest_front (spelling_of s) (IsSubRecord s) (subs_determined s) adds.subs
              others rest left adds.each all none (sym adds.parts ∙ e);
        };
        wrong = rw code (sub_fails s rest flaw some (subs_left h) flawed);
        place = place ∙ reached_is;
      }
