-- How the text of a list of fields is read: it is cut at its commas, and each entry at its last dot.
use Rattle.std.proofs.Common.{Bool, List, MatchOption, None, Option, Some, [], ap, arith, drop, eqb, false, get_or}
use Rattle.std.proofs.Common.{length, refl, subst, sym, take, true, ℕ, ◌+◌, ◌++◌, ◌<◌, ◌∙◌, ◌∷◌, ◌≡◌, ◌≢◌, ◌≤◌}
use Rattle.std.specs.List.{AllByRecursion, Contains}
use Rattle.std.specs.Str.{NoCharPasses}
use Rattle.std.specs.Str.Pattern.{RFindsChar, SplitsAroundMatch}
use Rattle.std.proofs.lemmas.List.{get_or_default, length_push, nil_from_length, take-append-drop}
use Rattle.std.proofs.lemmas.Bool.{eqb-true, false≢true}
use Rattle.std.proofs.lemmas.Str.Pattern.{NoCharPasses-char, drop_at_char}
use Rattle.heap_graph.specs.SkipText.{IsEntry, SpellsSkips, entry_text, list_text}
use Rattle.heap_graph.specs.Skips.{SkipEntry}
use Rattle.heap_graph.proofs.SkipLaws.{first_cut, last_cut, there}
use denote.Ref.{Bor}

-- ---- a piece of the text, and its last dot

pub lacks : (k : ℕ) (xs : List ℕ) → ((i : ℕ) → i < length xs → get_or xs i 0 ≢ k) → Contains xs k → ⊥
lacks k xs none has = none has.0 has.1 (get_or_default xs has.0 0 k has.1 ∙ has.2)

pub no_entry : (piece : List ℕ) → NoCharPasses (λ d. eqb d 46) piece → (e : SkipEntry) → IsEntry e
    → entry_text e ≡ piece → ⊥
no_entry piece none e is spelled =
    lacks 46 piece (λ i inside. NoCharPasses-char 46 piece i none (omega arith) inside)
    (subst (λ (xs : List ℕ). Contains xs 46) spelled (there 46 e.class e.field))

-- the piece is `class`, its last dot, and `field`
pub record IsParted (piece class field : List ℕ) : Type 0 where
  pub whole : piece ≡ class ++ 46 ∷ field
  pub last : Contains field 46 → ⊥

pub parted : (piece class field : List ℕ) → SplitsAroundMatch (RFindsChar 46) piece class field
    → IsParted piece class field
parted piece class field w =
    let behind = drop_at_char 46 piece w.0 w.1 w.2.1 (omega arith) in
    record {
      whole =
          sym (take-append-drop w.0 piece)
          ∙ ap (λ (xs : List ℕ). take w.0 piece ++ xs) behind
          ∙ (λ i. sym w.3 i ++ 46 ∷ sym w.4 i);
      last =
          λ has.
          let none = λ (i : ℕ) (inside : i < length (drop w.1 piece)).
          NoCharPasses-char 46 (drop w.1 piece) i w.2.0 (omega arith) inside in
          lacks 46 (drop w.1 piece) none (subst (λ (xs : List ℕ). Contains xs 46) w.4 has);
    }

-- an entry that the piece spells has these parts
pub only_parts : (piece class field : List ℕ) → IsParted piece class field → (e : SkipEntry) → IsEntry e
    → entry_text e ≡ piece → (e.class ≡ class) × (e.field ≡ field)
only_parts piece class field is e entry spelled =
    last_cut 46 e.class class e.field field entry.last_dot is.last (spelled ∙ is.whole)

pub some_from : (xs : List ℕ) (is_empty : Bool) → is_empty ≡ eqb (length xs) 0 → is_empty ≡ false → xs ≢ []
some_from xs is_empty is fails e = false≢true (sym fails ∙ is ∙ ap (λ (ys : List ℕ). eqb (length ys) 0) e)

pub none_from : (xs : List ℕ) (is_empty : Bool) → is_empty ≡ eqb (length xs) 0 → is_empty ≡ true → xs ≡ []
none_from xs is_empty is holds = nil_from_length xs (eqb-true (length xs) 0 (sym is ∙ holds))

-- parts of a piece without a comma are an entry if they are not empty
pub entry_from : (piece class field : List ℕ) → IsParted piece class field → (Contains piece 44 → ⊥) → class ≢ []
    → field ≢ [] → (e : SkipEntry) → e.class ≡ class → e.field ≡ field → IsEntry e × (entry_text e ≡ piece)
entry_from piece class field is no_comma some_class some_field e same_class same_field =
    let spelled : entry_text e ≡ piece = (λ i. same_class i ++ 46 ∷ same_field i) ∙ sym is.whole in (
      record {
        some_class = λ none. some_class (sym same_class ∙ none);
        some_field = λ none. some_field (sym same_field ∙ none);
        last_dot = λ has. is.last (subst (λ (xs : List ℕ). Contains xs 46) same_field has);
        no_comma = λ has. no_comma (subst (λ (xs : List ℕ). Contains xs 44) spelled has);
      },
      spelled,
    )

-- ---- the text as far as it was read

-- the entries, each followed by a comma, and then `rest`
abbrev pub entries_and : List SkipEntry → List ℕ → List ℕ
entries_and [] rest = rest
entries_and (e ∷ es) rest = entry_text e ++ 44 ∷ entries_and es rest

pub record IsRead (text : List ℕ) (entries : List SkipEntry) (rest : List ℕ) : Type 0 where
  pub each : AllByRecursion IsEntry entries
  pub spelled : text ≡ entries_and entries rest

-- `rest` is `piece`, or `piece`, a comma and `more`
abbrev pub IsCut : List ℕ → List ℕ → Option (Bor (List ℕ)) → Type 0
IsCut rest piece more = MatchOption more (rest ≡ piece) (λ x. rest ≡ piece ++ 44 ∷ x.now)

one_more : (es : List SkipEntry) (e : SkipEntry) → AllByRecursion IsEntry es → IsEntry e
    → AllByRecursion IsEntry (es ++ e ∷ [])
one_more [] e are is = (is, tt)
one_more (f ∷ es) e are is = (are.0, one_more es e are.1 is)

longer : (es : List SkipEntry) (e : SkipEntry) (rest : List ℕ) → entries_and es (entry_text e ++ 44 ∷ rest)
    ≡ entries_and (es ++ e ∷ []) rest
longer [] e rest = refl
longer (f ∷ es) e rest = ap (λ (xs : List ℕ). entry_text f ++ 44 ∷ xs) (longer es e rest)

ended : (es : List SkipEntry) (e : SkipEntry) → entries_and es (entry_text e) ≡ list_text (es ++ e ∷ [])
ended [] e = refl
ended (f ∷ []) e = refl
ended (f ∷ g ∷ es) e = ap (λ (xs : List ℕ). entry_text f ++ 44 ∷ xs) (ended (g ∷ es) e)

pub read_on : (text piece more : List ℕ) (es : List SkipEntry) (e : SkipEntry) (rest : List ℕ) → IsRead text es rest
    → IsEntry e → entry_text e ≡ piece → rest ≡ piece ++ 44 ∷ more → IsRead text (es ++ e ∷ []) more
read_on text piece more es e rest read is spelled cut = record {
  each = one_more es e read.each is;
  spelled =
      read.spelled
      ∙ ap (entries_and es) (cut ∙ ap (λ (xs : List ℕ). xs ++ 44 ∷ more) (sym spelled))
      ∙ longer es e more;
}

pub read_all : (text piece : List ℕ) (es : List SkipEntry) (e : SkipEntry) (rest : List ℕ) → IsRead text es rest
    → IsEntry e → entry_text e ≡ piece → rest ≡ piece → length es < 64 → SpellsSkips text (es ++ e ∷ [])
read_all text piece es e rest read is spelled cut few =
    let count : length (es ++ e ∷ []) ≡ length es + 1 = length_push es e in
    record {
      some = omega (arith, count);
      most = omega (arith, count);
      each = one_more es e read.each is;
      spelled = read.spelled ∙ ap (entries_and es) (cut ∙ sym spelled) ∙ ended es e;
    }

-- ---- a list that the text spells has the entries that were read, and at least one more

pub record IsLeft (es list tail : List SkipEntry) (rest : List ℕ) : Type 0 where
  pub count : length list ≡ length es + length tail
  pub some : 1 ≤ length tail
  pub each : AllByRecursion IsEntry tail
  pub spelled : rest ≡ list_text tail

left : (es list : List SkipEntry) (rest : List ℕ) → AllByRecursion IsEntry es → 1 ≤ length list
    → AllByRecursion IsEntry list → entries_and es rest ≡ list_text list
    → (tail : List SkipEntry) × IsLeft es list tail rest
left [] list rest read some are same = (list, record { count = omega arith; some = some; each = are; spelled = same })
left (e ∷ es) [] rest read some are same = absurd (omega (arith, some))
left (e ∷ es) (f ∷ []) rest read some are same =
    let comma = there 44 (entry_text e) (entries_and es rest) in
    absurd (are.0.no_comma (subst (λ (xs : List ℕ). Contains xs 44) same comma))
left (e ∷ es) (f ∷ g ∷ list) rest read some are same =
    let parts =
    first_cut 44 (entry_text e) (entry_text f) (entries_and es rest) (list_text (g ∷ list)) read.0.no_comma
    are.0.no_comma same in
    let found = left es (g ∷ list) rest read.1 (omega arith) are.1 parts.1 in (
      found.0,
      record {
        count = omega (arith, found.1.count);
        some = found.1.some;
        each = found.1.each;
        spelled = found.1.spelled;
      },
    )

left_of : (text rest : List ℕ) (es list : List SkipEntry) → IsRead text es rest → SpellsSkips text list
    → (tail : List SkipEntry) × IsLeft es list tail rest
left_of text rest es list read is = left es list rest read.each is.some is.each (sym read.spelled ∙ is.spelled)

-- so if the next piece is no entry, the text spells no list
none_here : (tail : List SkipEntry) (rest piece : List ℕ) (more : Option (Bor (List ℕ))) → 1 ≤ length tail
    → AllByRecursion IsEntry tail → rest ≡ list_text tail → (Contains piece 44 → ⊥) → IsCut rest piece more
    → ((e : SkipEntry) → IsEntry e → entry_text e ≡ piece → ⊥) → ⊥
none_here [] rest piece more some are spelled no_comma cut none = omega (arith, some)
none_here (e ∷ []) rest piece None some are spelled no_comma cut none = none e are.0 (sym spelled ∙ cut)
none_here (e ∷ []) rest piece (Some more) some are spelled no_comma cut none =
    are.0.no_comma (subst (λ (xs : List ℕ). Contains xs 44) (sym cut ∙ spelled) (there 44 piece more.now))
none_here (e ∷ f ∷ tail) rest piece None some are spelled no_comma cut none =
    let comma = there 44 (entry_text e) (list_text (f ∷ tail)) in
    no_comma (subst (λ (xs : List ℕ). Contains xs 44) (sym spelled ∙ cut) comma)
none_here (e ∷ f ∷ tail) rest piece (Some more) some are spelled no_comma cut none =
    let parts =
    first_cut 44 (entry_text e) piece (list_text (f ∷ tail)) more.now are.0.no_comma no_comma
    (sym spelled ∙ cut) in
    none e are.0 parts.0

pub no_list : (text rest piece : List ℕ) (more : Option (Bor (List ℕ))) (es : List SkipEntry) → IsRead text es rest
    → (Contains piece 44 → ⊥) → IsCut rest piece more
    → ((e : SkipEntry) → IsEntry e → entry_text e ≡ piece → ⊥)
    → (list : List SkipEntry) → SpellsSkips text list → ⊥
no_list text rest piece more es read no_comma cut none list is =
    let found = left_of text rest es list read is in
    none_here found.0 rest piece more found.1.some found.1.each found.1.spelled no_comma cut none

-- nor does it if 64 entries were read and a comma follows them
pub too_many : (text rest : List ℕ) (es : List SkipEntry) → IsRead text es rest → 64 ≤ length es
    → (list : List SkipEntry) → SpellsSkips text list → ⊥
too_many text rest es read many list is =
    let found = left_of text rest es list read is in
    omega (arith, found.1.count, found.1.some, is.most)
