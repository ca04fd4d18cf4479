-- Lists of fields: their bytes one after another, and the first field at which reading breaks off.
use Rattle.hprof_grammar.proofs.Words.{AllByRecursion, AreAllowed, EndsShort, Field, Flaw, HasWrongType, IsAllowed}
use Rattle.hprof_grammar.proofs.Words.{List, Short, UnknownTag, WrongType, [], ap, append_assoc, arith, false}
use Rattle.hprof_grammar.proofs.Words.{field_spelling, flat_map-append, inl, inr, is_type_at, length, length-append}
use Rattle.hprof_grammar.proofs.Words.{number, raw, refl, spelled, subst, sym, type_code, ℕ, ◌++◌, ◌<◌, ◌∙◌, ◌∷◌, ◌≡◌}
use Rattle.hprof_grammar.proofs.Words.{◌⊎◌}

infixr 4 ◌&◌
-- a pair; `a & b & c` is the pair of a and `b & c`
abbrev pub ◌&◌ : {A B : Type 0} → A → B → A × B
a & b = (a, b)

pub all_join : {A : Type 0} (P : A → Type 0) (xs ys : List A) → AllByRecursion P xs → AllByRecursion P ys
    → AllByRecursion P (xs ++ ys)
all_join P [] ys h k = k
all_join P (x ∷ xs) ys h k = (h.0, all_join P xs ys h.1 k)

pub all_split : {A : Type 0} (P : A → Type 0) (xs ys : List A) → AllByRecursion P (xs ++ ys) → AllByRecursion P xs
    × AllByRecursion P ys
all_split P [] ys h = (tt, h)
all_split P (x ∷ xs) ys h = let s = all_split P xs ys h.1 in ((h.0, s.0), s.1)

pub spelled-append : (fs gs : List Field) → spelled (fs ++ gs) ≡ spelled fs ++ spelled gs
spelled-append fs gs = flat_map-append field_spelling fs gs

-- the bytes of two lists of fields are those of the first, and then those of the second
pub spelled_then : (fs gs : List Field) (rest : List ℕ)
    → spelled (fs ++ gs) ++ rest ≡ spelled fs ++ (spelled gs ++ rest)
spelled_then fs gs rest = rw (spelled-append fs gs) (append_assoc (spelled fs) (spelled gs) rest)

pub spelled_one : (f : Field) (rest : List ℕ) → spelled (f ∷ []) ++ rest ≡ field_spelling f ++ rest
spelled_one f rest = append_assoc (field_spelling f) [] rest

-- a type code that is not allowed is in place of the field
abbrev pub IsWrong : Field → List ℕ → Type 0
IsWrong (number width value) bytes = ⊥
IsWrong (type_code place code) bytes = (is_type_at place code ≡ false) × ((rest : List ℕ) × (bytes ≡ code ∷ rest))
IsWrong (raw text) bytes = ⊥

-- what is in place of a field that has this flaw
abbrev pub Spoils : Flaw → Field → List ℕ → Type 0
Spoils Short field bytes = (missing : List ℕ) × (field_spelling field ≡ bytes ++ missing) × (0 < length missing)
Spoils WrongType field bytes = IsWrong field bytes
Spoils UnknownTag field bytes = ⊥

-- the bytes spell the first of the fields, all allowed, and then have the flaw in place of the next one
pub record Breaks (flaw : Flaw) (fields : List Field) (bytes : List ℕ) : Type 0 where
  pub front : List Field
  pub field : Field
  pub more : List Field
  pub rest : List ℕ
  pub in_order : fields ≡ front ++ field ∷ more
  pub allowed : AreAllowed front
  pub bytes_are : bytes ≡ spelled front ++ rest
  pub spoiled : Spoils flaw field rest

pub breaks_here : (flaw : Flaw) (f : Field) (fs : List Field) (bytes : List ℕ) → Spoils flaw f bytes
    → Breaks flaw (f ∷ fs) bytes
breaks_here flaw f fs bytes h =
    record {
      front = [];
      field = f;
      more = fs;
      rest = bytes;
      in_order = refl;
      allowed = tt;
      bytes_are = refl;
      spoiled = h;
    }

-- other fields that begin with the same front and the same spoiled field break off there too
breaks_among : {flaw : Flaw} {fs gs : List Field} {bytes : List ℕ} (b : Breaks flaw fs bytes) (more : List Field)
    → gs ≡ b.front ++ b.field ∷ more → Breaks flaw gs bytes
breaks_among b more e = record {
  front = b.front;
  field = b.field;
  more = more;
  rest = b.rest;
  in_order = e;
  allowed = b.allowed;
  bytes_are = b.bytes_are;
  spoiled = b.spoiled;
}

pub breaks_first : (flaw : Flaw) (fs gs : List Field) (bytes : List ℕ) → Breaks flaw fs bytes
    → Breaks flaw (fs ++ gs) bytes
breaks_first flaw fs gs bytes b = breaks_among b (b.more ++ gs)
    (ap (λ (x : List Field). x ++ gs) b.in_order ∙ append_assoc b.front (b.field ∷ b.more) gs)

pub breaks_second : (flaw : Flaw) (fs gs : List Field) (rest : List ℕ) → AreAllowed fs → Breaks flaw gs rest
    → Breaks flaw (fs ++ gs) (spelled fs ++ rest)
breaks_second flaw fs gs rest h b = record {
  front = fs ++ b.front;
  field = b.field;
  more = b.more;
  rest = b.rest;
  in_order = ap (λ (x : List Field). fs ++ x) b.in_order ∙ sym (append_assoc fs b.front (b.field ∷ b.more));
  allowed = all_join IsAllowed fs b.front h b.allowed;
  bytes_are = ap (λ (x : List ℕ). spelled fs ++ x) b.bytes_are ∙ sym (spelled_then fs b.front b.rest);
  spoiled = b.spoiled;
}

-- an element of two joined lists is in the first or in the second
split_at : {A : Type 0} (xs ys front : List A) (a : A) (more : List A) → xs ++ ys ≡ front ++ a ∷ more
    → ((tail : List A) × (xs ≡ front ++ a ∷ tail)) ⊎ ((mid : List A) × (front ≡ xs ++ mid) × (ys ≡ mid ++ a ∷ more))
split_at [] ys front a more e = inr (front, refl, e)
split_at (x ∷ xs) ys [] a more e =
    let h : x ≡ a = cc in
    inl (xs, ap (λ z. z ∷ xs) h)
split_at {A = A} (x ∷ xs) ys (z ∷ front) a more e =
    let h : x ≡ z = cc in
    let t : xs ++ ys ≡ front ++ a ∷ more = cc in
    elim (split_at xs ys front a more t) [
      | inl s ↦ inl (s.0, rw (h, s.1) refl)
      | inr s ↦ inr (s.0, rw (h, s.1) refl, s.2)
    ]

-- reading breaks off in the first list, or after it in the second
pub breaks_split : (flaw : Flaw) (fs gs : List Field) (bytes : List ℕ) → Breaks flaw (fs ++ gs) bytes
    → Breaks flaw fs bytes ⊎ ((rest : List ℕ) × AreAllowed fs × (bytes ≡ spelled fs ++ rest) × Breaks flaw gs rest)
breaks_split flaw fs gs bytes b = elim (split_at fs gs b.front b.field b.more b.in_order) [
  | inl s ↦ inl (breaks_among b s.0 s.1)
  | inr s ↦
      let parts = all_split IsAllowed fs s.0 (subst AreAllowed s.1 b.allowed) in
      inr (
        spelled s.0 ++ b.rest,
        parts.0,
        b.bytes_are ∙ ap (λ (x : List Field). spelled x ++ b.rest) s.1 ∙ spelled_then fs s.0 b.rest,
        record {
          front = s.0;
          field = b.field;
          more = b.more;
          rest = b.rest;
          in_order = s.2;
          allowed = parts.1;
          bytes_are = refl;
          spoiled = b.spoiled;
        },
      )
]

-- reading an empty list of fields does not break off
pub breaks_never : (flaw : Flaw) (bytes : List ℕ) → Breaks flaw [] bytes → ⊥
breaks_never flaw bytes b = omega (arith, ap length b.in_order, length-append b.front (b.field ∷ b.more))

pub breaks_one : (flaw : Flaw) (f : Field) (bytes : List ℕ) → Breaks flaw (f ∷ []) bytes → Spoils flaw f bytes
breaks_one flaw f bytes b = one b.front b.in_order b.bytes_are where
  one : (front : List Field) → f ∷ [] ≡ front ++ b.field ∷ b.more → bytes ≡ spelled front ++ b.rest
      → Spoils flaw f bytes
  one [] e is =
      let h : b.field ≡ f = cc in
      rw is (subst (λ (x : Field). Spoils flaw x b.rest) h b.spoiled)
  one (g ∷ front) e is = absurd (omega (arith, ap length e, length-append front (b.field ∷ b.more)))

-- ---- the two ways to break off, by their definitions

pub ends_short : (fields : List Field) (bytes : List ℕ) → Breaks Short fields bytes → EndsShort fields bytes
ends_short fields bytes b = record {
  front = b.front;
  cut = b.field;
  more = b.more;
  part = b.rest;
  missing = b.spoiled.0;
  in_order = b.in_order;
  allowed = b.allowed;
  bytes_are = b.bytes_are;
  cut_is = b.spoiled.1;
  not_whole = b.spoiled.2;
}

pub breaks_short : (fields : List Field) (bytes : List ℕ) → EndsShort fields bytes → Breaks Short fields bytes
breaks_short fields bytes h = record {
  front = h.front;
  field = h.cut;
  more = h.more;
  rest = h.part;
  in_order = h.in_order;
  allowed = h.allowed;
  bytes_are = h.bytes_are;
  spoiled = (h.missing, h.cut_is, h.not_whole);
}

pub has_wrong_type : (fields : List Field) (bytes : List ℕ) → Breaks WrongType fields bytes → HasWrongType fields bytes
has_wrong_type fields bytes b = by b.field b.in_order b.spoiled where
  by : (field : Field) → fields ≡ b.front ++ field ∷ b.more → IsWrong field b.rest → HasWrongType fields bytes
  by (type_code place code) e w = record {
    front = b.front;
    place = place;
    code = code;
    more = b.more;
    rest = w.1.0;
    in_order = e;
    allowed = b.allowed;
    wrong = w.0;
    bytes_are = b.bytes_are ∙ ap (λ (x : List ℕ). spelled b.front ++ x) w.1.1;
  }
  by field e w = absurd w

pub breaks_wrong : (fields : List Field) (bytes : List ℕ) → HasWrongType fields bytes → Breaks WrongType fields bytes
breaks_wrong fields bytes h = record {
  front = h.front;
  field = type_code h.place h.code;
  more = h.more;
  rest = h.code ∷ h.rest;
  in_order = h.in_order;
  allowed = h.allowed;
  bytes_are = h.bytes_are;
  spoiled = (h.wrong, (h.rest, refl));
}
