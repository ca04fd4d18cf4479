-- A text is cut into lines in one way, so it spells at most one list, and its first bad line is where none is left.
use Rattle.std.proofs.Common.{List, None, Some, [], ap, append_assoc, arith, length, length-append, refl}
use Rattle.std.proofs.Common.{Bool, eqb, false, true, subst, suc, sym, ℕ, ◌++◌, ◌+◌, ◌<◌, ◌∙◌, ◌∷◌, ◌≡◌, ◌≢◌}
use Rattle.std.proofs.lemmas.Bool.{eqb-true, false≢true}
use Rattle.std.proofs.lemmas.List.{nil_from_length}
use Rattle.std.proofs.lemmas.Option.{some_pair_parts}
use Rattle.label_list.proofs.Lines.{line_found, line_read}
use Rattle.label_list.specs.ListText.{IsFirstBadLine, SpellsEntry, SpellsList, newline}
use Rattle.label_list.specs.working.Reading.{line_at}
use Rattle.label_list.specs.declared.entry.Entry.{Entry}

-- a text that is a line of an entry and a rest is so in one way
one_line : (line other rest more : List ℕ) (e f : Entry) → SpellsEntry line e → SpellsEntry other f
    → line ++ newline ∷ rest ≡ other ++ newline ∷ more → (e ≡ f) × (rest ≡ more)
one_line line other rest more e f is are same =
    some_pair_parts e f rest more (sym (line_read line rest e is) ∙ ap line_at same ∙ line_read other more f are)

some_line : (line rest : List ℕ) → line ++ newline ∷ rest ≢ []
some_line [] rest e = cc
some_line (b ∷ bs) rest e = cc

pub one_list : (list other : List Entry) (text : List ℕ) → SpellsList text list → SpellsList text other → list ≡ other
one_list [] [] text is are = refl
one_list [] (f ∷ fs) text is are = absurd (some_line are.0 are.1 (sym are.4 ∙ is))
one_list (e ∷ es) [] text is are = absurd (some_line is.0 is.1 (sym is.4 ∙ are))
one_list (e ∷ es) (f ∷ fs) text is are =
    let same = one_line is.0 are.0 is.1 are.1 e f is.2 are.2 (sym is.4 ∙ are.4) in
    let more = one_list es fs are.1 (subst (λ (xs : List ℕ). SpellsList xs es) same.1 is.3) are.3 in
    λ i. same.0 i ∷ more i

-- the text in lines of `entries` and then `rest`
abbrev pub IsRead : List ℕ → List Entry → List ℕ → Type 0
IsRead text [] rest = text ≡ rest
IsRead text (e ∷ es) rest = (line : List ℕ) × (more : List ℕ) × SpellsEntry line e × IsRead more es rest
    × (text ≡ line ++ newline ∷ more)

pub read_on : (es : List Entry) (text rest more : List ℕ) (e : Entry) → IsRead text es rest
    → line_at rest ≡ Some (e, more) → IsRead text (es ++ e ∷ []) more
read_on [] text rest more e is found =
    let line = line_found rest more e found in (line.0, more, line.1, refl, is ∙ line.2)
read_on (f ∷ fs) text rest more e is found =
    (is.0, is.1, is.2, read_on fs is.1 rest more e is.3 found, is.4)

pub read_all : (es : List Entry) (text rest : List ℕ) → IsRead text es rest → rest ≡ [] → SpellsList text es
read_all [] text rest is none = is ∙ none
read_all (e ∷ es) text rest is none = (is.0, is.1, is.2, read_all es is.1 rest is.3 none, is.4)

pub shorter : (rest more : List ℕ) (e : Entry) → line_at rest ≡ Some (e, more) → length more < length rest
shorter rest more e found =
    let line = line_found rest more e found in omega (arith, ap length line.2, length-append line.0 (newline ∷ more))

pub is_some : (rest : List ℕ) (empty : Bool) → empty ≡ eqb (length rest) 0 → empty ≡ false → rest ≢ []
is_some rest empty test fails none = false≢true (sym fails ∙ test ∙ ap (λ (xs : List ℕ). eqb (length xs) 0) none)

pub is_none : (rest : List ℕ) (empty : Bool) → empty ≡ eqb (length rest) 0 → empty ≡ true → rest ≡ []
is_none rest empty test holds = nil_from_length rest (eqb-true (length rest) 0 (sym test ∙ holds))

-- what was read, and what is left
read_parts : (es : List Entry) (text rest : List ℕ) → IsRead text es rest
    → (before : List ℕ) × SpellsList before es × (text ≡ before ++ rest)
read_parts [] text rest is = ([], refl, is)
read_parts (e ∷ es) text rest is =
    let more = read_parts es is.1 rest is.3 in (
      is.0 ++ newline ∷ more.0,
      (is.0, more.0, is.2, more.1, refl),
      is.4 ∙ ap (λ (xs : List ℕ). is.0 ++ newline ∷ xs) more.2 ∙ sym (append_assoc is.0 (newline ∷ more.0) rest),
    )

pub first_bad : (es : List Entry) (text rest : List ℕ) (n : ℕ) → IsRead text es rest → rest ≢ [] → line_at rest ≡ None
    → n ≡ length es + 1 → IsFirstBadLine text n
first_bad es text rest n is some none number =
    let parts = read_parts es text rest is in
    record {
      before = parts.0;
      rest = rest;
      entries = es;
      whole = parts.2;
      good = parts.1;
      number_is = number;
      some = some;
      bad =
          λ line entry more spells cut.
          let wrong : None ≡ Some (entry, more) =
          sym none ∙ ap line_at cut ∙ line_read line more entry spells in
          cc;
    }

-- a text whose first part begins with a line begins with that line
lined : (text line behind before rest : List ℕ) → text ≡ before ++ rest → before ≡ line ++ newline ∷ behind
    → text ≡ line ++ newline ∷ (behind ++ rest)
lined text line behind before rest whole cut =
    whole ∙ ap (λ (xs : List ℕ). xs ++ rest) cut ∙ append_assoc line (newline ∷ behind) rest

no_list_from : (es list : List Entry) (text before rest : List ℕ) → text ≡ before ++ rest → SpellsList before es
    → rest ≢ []
    → ((line : List ℕ) (entry : Entry) (more : List ℕ) → SpellsEntry line entry → rest ≢ line ++ newline ∷ more)
    → SpellsList text list → ⊥
no_list_from [] [] text before rest whole good some bad is =
    some (sym (whole ∙ ap (λ (xs : List ℕ). xs ++ rest) good) ∙ is)
no_list_from [] (f ∷ fs) text before rest whole good some bad is =
    bad is.0 f is.1 is.2 (sym (whole ∙ ap (λ (xs : List ℕ). xs ++ rest) good) ∙ is.4)
no_list_from (e ∷ es) [] text before rest whole good some bad is =
    some_line good.0 (good.1 ++ rest) (sym (lined text good.0 good.1 before rest whole good.4) ∙ is)
no_list_from (e ∷ es) (f ∷ fs) text before rest whole good some bad is =
    let same =
    one_line good.0 is.0 (good.1 ++ rest) is.1 e f good.2 is.2
    (sym (lined text good.0 good.1 before rest whole good.4) ∙ is.4) in
    no_list_from es fs is.1 good.1 rest (sym same.1) good.3 some bad is.3

pub no_list : (text : List ℕ) (n : ℕ) (list : List Entry) → IsFirstBadLine text n → SpellsList text list → ⊥
no_list text n list at is = no_list_from at.entries list text at.before at.rest at.whole at.good at.some at.bad is

-- the lines before a bad one, and a bad one: two such have as many lines
as_many : (es fs : List Entry) (text before rest behind left : List ℕ) → text ≡ before ++ rest → text ≡ behind ++ left
    → SpellsList before es → SpellsList behind fs
    → ((line : List ℕ) (entry : Entry) (more : List ℕ) → SpellsEntry line entry → rest ≢ line ++ newline ∷ more)
    → ((line : List ℕ) (entry : Entry) (more : List ℕ) → SpellsEntry line entry → left ≢ line ++ newline ∷ more)
    → length es ≡ length fs
as_many [] [] text before rest behind left whole other good are bad worse = refl
as_many [] (f ∷ fs) text before rest behind left whole other good are bad worse =
    absurd (bad are.0 f (are.1 ++ left) are.2
    (sym (whole ∙ ap (λ (xs : List ℕ). xs ++ rest) good) ∙ lined text are.0 are.1 behind left other are.4))
as_many (e ∷ es) [] text before rest behind left whole other good are bad worse =
    absurd (worse good.0 e (good.1 ++ rest) good.2
    (sym (other ∙ ap (λ (xs : List ℕ). xs ++ left) are) ∙ lined text good.0 good.1 before rest whole good.4))
as_many (e ∷ es) (f ∷ fs) text before rest behind left whole other good are bad worse =
    let same =
    one_line good.0 are.0 (good.1 ++ rest) (are.1 ++ left) e f good.2 are.2
    (sym (lined text good.0 good.1 before rest whole good.4) ∙ lined text are.0 are.1 behind left other are.4) in
    ap suc
    (as_many es fs (good.1 ++ rest) good.1 rest are.1 left refl same.1 good.3 are.3 bad worse)

pub one_bad : (text : List ℕ) (n other : ℕ) → IsFirstBadLine text n → IsFirstBadLine text other → n ≡ other
one_bad text n other at is =
    let many =
    as_many at.entries is.entries text at.before at.rest is.before is.rest at.whole is.whole at.good is.good at.bad
    is.bad in
    omega (arith, many, at.number_is, is.number_is)
