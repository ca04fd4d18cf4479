-- What the matches of a successful parse hold of an argument that takes one value.
use Rattle.std.proofs.Common.{List, None, Option, Some, [], ap, arith, false, inl, inr, is_some, length, option_map}
use Rattle.std.proofs.Common.{refl, subst, suc, sym, true, true≢false, zero, ℕ, Bool, ◌∙◌, ◌∷◌, ◌≡◌, ◌<◌, ◌≤◌}
use Rattle.std.specs.Borrow.{Bor}
use Rattle.std.specs.List.{All, slice_index_or}
use Rattle.std.specs.Prelude.{find, slice_get}
use Rattle.std.specs.Str.{bytes_eq}
use Rattle.std.proofs.lemmas.List.Elements.{All-get_or}
use Rattle.std.proofs.lemmas.Slice.Eq.{bytes_eq-Decides}
use Rattle.clap.specs.Built.{IsAuto, IsParsedFrom}
use Rattle.clap.specs.Facts.{Entry, EntryPasses, HasIn, PassesArg, args_of, groups_of, least_values, parser_of}
use Rattle.clap.specs.Facts.{parser_of_value}
use Rattle.clap.specs.Matches.{first_value, found_of, matched_of, one_text}
use Rattle.clap.specs.Values.{Accepts, read_as, reading_of}
use Rattle.clap.specs.declared.builder.action.ArgAction.TheVariants.{Count, Set}
use Rattle.clap.specs.declared.builder.arg.Arg.{Arg}
use Rattle.clap.specs.declared.builder.command.Command.{Command}
use Rattle.clap.specs.declared.builder.command.Command.TheViews.{out-Command}
use Rattle.clap.specs.declared.builder.value_parser.Reading.{Reading}
use Rattle.clap.specs.declared.builder.value_parser.ValueParser.{ValueParser}
use Rattle.clap.specs.declared.parser.matches.ArgMatches.{ArgMatches}
use Rattle.clap.specs.declared.parser.matches.Found.{Found}
use Rattle.clap.specs.declared.parser.matches.MatchedArg.{MatchedArg}
use Rattle.clap.proofs.CallerLemmas.{entry_by_id, same_rules_by_id}

-- an id that an entry has is found
pub found_by_id : (xs : List Entry) (id : List ℕ) → HasIn xs id
    → is_some (option_map (λ e. e.1) (find (λ e. bytes_eq e.0.now id) xs)) ≡ true
found_by_id [] id h = absurd (omega (arith, h.1))
found_by_id (x ∷ xs) id h = go (bytes_eq x.0.now id) refl h.0 h.1 h.2 (found_by_id xs id)
  where
    go : (t : Bool) → bytes_eq x.0.now id ≡ t → (i : ℕ) → i < length (x ∷ xs)
        → ((d : Entry) → bytes_eq (slice_index_or (x ∷ xs) i d).0.now id ≡ true)
        → (HasIn xs id → is_some (option_map (λ e. e.1) (find (λ e. bytes_eq e.0.now id) xs)) ≡ true)
        → is_some (option_map (λ e. e.1) (find (λ e. bytes_eq e.0.now id) (x ∷ xs))) ≡ true
    go true e i lt there rest = rw e refl
    go false e zero lt there rest = let bad : false ≡ true = sym e ∙ there x in cc
    go false e (suc i) lt there rest = rw e (rest (i, omega arith, there))

-- the first value exists and satisfies what all values satisfy
first : (P : Bor (List ℕ) → Type 0) (how : Reading) (vs : List (Bor (List ℕ))) → 0 < length vs → All P vs
    → (v : Bor (List ℕ)) × (option_map (λ s. s.now) (slice_get vs 0) ≡ Some v.now)
    × (option_map (λ s. read_as how s.now) (slice_get vs 0) ≡ Some (read_as how v.now)) × P v
first P how [] some all = absurd (omega arith)
first P how (v ∷ vs) some all = (v, refl, refl, All-get_or P (v ∷ vs) 0 v (omega arith) all)

first_at : (f : Found) (id : List ℕ) (x : MatchedArg) (t : List ℕ) → matched_of f id ≡ Some x
    → option_map (λ s. s.now) (slice_get x.vals.items 0) ≡ Some t
    → first_value f id ≡ Some t
first_at f id x t found is = rw found is

read_at : (f : Found) (id : List ℕ) (x : MatchedArg) (how : Reading) (t : List ℕ) → matched_of f id ≡ Some x
    → x.reading ≡ how
    → option_map (λ s. read_as how s.now) (slice_get x.vals.items 0) ≡ Some t → one_text f id ≡ Some t
read_at f id x how t found reading is = rw (found, reading) is

-- the argument k of the caller's command has an id of its own, takes one value and has parser q
pub record TakesOne (old : Command) (k : ℕ) (d : Arg) (q : ValueParser) : Type 0 where
  pub below : k < length (args_of old)
  pub unique : (j : ℕ) (e : Arg) → j < length (args_of old)
      → bytes_eq (slice_index_or (args_of old) j e).id.now (slice_index_or (args_of old) k d).id.now ≡ true → j ≡ k
  pub named : (slice_index_or (args_of old) k d).id.now ≡ [] → ⊥
  pub own : IsAuto (slice_index_or (args_of old) k d) → ⊥
  pub set : (slice_index_or (args_of old) k d).action ≡ Some Set
  pub whole : (slice_index_or (args_of old) k d).val_delim ≡ None
  pub least : 1 ≤ least_values (slice_index_or (args_of old) k d)
  pub parser : (slice_index_or (args_of old) k d).value_parser ≡ Some q

module _ (old : Command) (m : ArgMatches) (p : IsParsedFrom old m) (no_groups : groups_of p.built ≡ []) (k : ℕ)
    (d : Arg) (q : ValueParser) (takes : TakesOne old k d q) where
  -- each argument of the built command with this id takes one value and has the parser
  rules_at : (j : ℕ) (x : Arg) → j < length (args_of p.built) → slice_index_or (args_of p.built) j x ≡ x
      → bytes_eq x.id.now (slice_index_or (args_of old) k d).id.now ≡ true
      → (parser_of x ≡ q) × (x.ignore_case ≡ (slice_index_or (args_of old) k d).ignore_case) × (x.action ≡ Some Set)
      × (x.val_delim ≡ None) × (1 ≤ least_values x)
  rules_at j x high at same =
      let s = same_rules_by_id old m p k d takes.below takes.unique takes.own j x high at same in (
        ap parser_of_value (s.parser q takes.parser),
        s.ignore_case,
        s.action Set takes.set,
        s.val_delim ∙ takes.whole,
        s.least takes.set takes.least,
      )

  -- the parser accepts each value that passed
  passed : (v : List ℕ) → PassesArg p.built (slice_index_or (args_of old) k d).id.now v
      → Accepts (slice_index_or (args_of old) k d).ignore_case q v
  passed v any =
      let r = rules_at any.0 any.1 any.2 any.3 any.4.0 in
      subst (λ (b : Bool). Accepts b q v) r.1 (subst (λ (w : ValueParser). Accepts any.1.ignore_case w v) r.0 any.4.1)

  no_group : (e : Entry) → (e.0.now ≡ (slice_index_or (args_of old) k d).id.now) → EntryPasses p.built e
      → e.1.is_group ≡ true → ⊥
  no_group e key pass g = elim (pass.3 g) [
    | inl empty ↦ takes.named (sym key ∙ empty)
    | inr has ↦
        let bad : 0 < 0 = rw no_groups at has in
        absurd (omega arith)
  ]

  -- the entry of the argument has a value
  filled : (e : Entry) → (e.0.now ≡ (slice_index_or (args_of old) k d).id.now) → EntryPasses p.built e
      → 0 < length e.1.vals.items
  filled e key pass = elim pass.1 [
    | inl h ↦ absurd (no_group e key pass h.0)
    | inr (inl some) ↦ some
    | inr (inr (inl h)) ↦
        let any = h.1 in
        let r = rules_at any.0 any.1 any.2 any.3 (rw key at any.4.0) in
        let bad : Set ≡ Count = rw r.2 at any.4.1 in
        cc
    | inr (inr (inr any)) ↦
        let r = rules_at any.0 any.1 any.2 any.3 (rw key at any.4.0) in
        elim any.4.1 [
          | inl none ↦ absurd (omega (arith, r.4))
          | inr split ↦
              let bad : false ≡ true = rw r.3 at split in
              cc
        ]
  ]

  -- the argument has a first value, which is the text that is read and which the parser accepts
  pub has_value : is_some (matched_of (found_of m) (slice_index_or (args_of old) k d).id.now) ≡ true
      → (out-Command old).has_globals ≡ false
      → (v : List ℕ) × (first_value (found_of m) (slice_index_or (args_of old) k d).id.now ≡ Some v)
      × (one_text (found_of m) (slice_index_or (args_of old) k d).id.now ≡ Some (read_as (reading_of q) v))
      × Accepts (slice_index_or (args_of old) k d).ignore_case q v
  has_value some globals = go (matched_of (found_of m) (slice_index_or (args_of old) k d).id.now) refl some
    where
      step : (x : MatchedArg) → matched_of (found_of m) (slice_index_or (args_of old) k d).id.now ≡ Some x
          → ((e : Entry) × (e.1 ≡ x) × (bytes_eq e.0.now (slice_index_or (args_of old) k d).id.now ≡ true)
          × EntryPasses p.built e)
          → (v : List ℕ) × (first_value (found_of m) (slice_index_or (args_of old) k d).id.now ≡ Some v)
          × (one_text (found_of m) (slice_index_or (args_of old) k d).id.now ≡ Some (read_as (reading_of q) v))
          × Accepts (slice_index_or (args_of old) k d).ignore_case q v
      step x found got =
          let id = (slice_index_or (args_of old) k d).id.now in
          let key : got.0.0.now ≡ id = (bytes_eq-Decides got.0.0.now id).0 got.2 in
          let pass = got.3 in
          let values : All (λ v. PassesArg p.built id v.now) x.vals.items = elim pass.0 [
            | inl g ↦ absurd (no_group got.0 key pass g)
            | inr all ↦ subst (λ (w : List ℕ). All (λ v. PassesArg p.built w v.now) x.vals.items) key (rw got.1 at all)
          ] in
          let how : got.0.1.reading ≡ reading_of q = elim pass.4 [
            | inl g ↦ absurd (no_group got.0 key pass g)
            | inr any ↦ sym any.4.1 ∙ ap reading_of (rules_at any.0 any.1 any.2 any.3 (rw key at any.4.0)).0
          ] in
          let reading : x.reading ≡ reading_of q = ap (λ (y : MatchedArg). y.reading) (sym got.1) ∙ how in
          let some : 0 < length x.vals.items =
          subst (λ (y : MatchedArg). 0 < length y.vals.items) got.1 (filled got.0 key pass) in
          let head = first (λ v. PassesArg p.built id v.now) (reading_of q) x.vals.items some values in (
            head.0.now,
            first_at (found_of m) id x head.0.now found head.1,
            read_at (found_of m) id x (reading_of q) (read_as (reading_of q) head.0.now) found reading head.2,
            passed head.0.now head.3,
          )

      go : (o : Option MatchedArg) → matched_of (found_of m) (slice_index_or (args_of old) k d).id.now ≡ o
          → is_some o ≡ true
          → (v : List ℕ) × (first_value (found_of m) (slice_index_or (args_of old) k d).id.now ≡ Some v)
          × (one_text (found_of m) (slice_index_or (args_of old) k d).id.now ≡ Some (read_as (reading_of q) v))
          × Accepts (slice_index_or (args_of old) k d).ignore_case q v
      go None e h = absurd (true≢false (sym h))
      go (Some x) e h = step x e (entry_by_id (EntryPasses p.built) (found_of m).entries.items
          (slice_index_or (args_of old) k d).id.now x (p.parsed (p.from.globals ∙ globals)).values e)
