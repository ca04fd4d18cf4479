-- Formats: values, the fields that spell them, and how they are read, with the laws that join the three.
use Rattle.hprof_grammar.proofs.Words.{AreAllowed, Bool, Err, Field, Flaw, List, Ok, Result, Short, TypePlace}
use Rattle.hprof_grammar.proofs.Words.{UnknownTag, WrongType, [], ap, arith, big_bytes, big_number}
use Rattle.hprof_grammar.proofs.Words.{big_number-reads_back, drop, false, if◌then◌else◌, inl, inr, is_type_at, le-ltb}
use Rattle.hprof_grammar.proofs.Words.{length, length-append, length-bytes_high_first, length-replicate, length-take-le}
use Rattle.hprof_grammar.proofs.Words.{lt-ltb, ltb-false, ltb-true, nat_lt, number, number_at, one-le-pow, raw, raw_at}
use Rattle.hprof_grammar.proofs.Words.{refl, replicate, spelled, sym, take, take-append-drop, take_all, true, type_at}
use Rattle.hprof_grammar.proofs.Words.{type_code, ℕ, ◌++◌, ◌-◌, ◌<◌, ◌>>=◌, ◌^◌, ◌∙◌, ◌∷◌, ◌≡◌, ◌≤◌, ◌⊎◌}
use Rattle.hprof_grammar.proofs.Bytes.{IsBytes, behind_bytes, behind_number, bytes-join, bytes_of_number, first_bytes}
use Rattle.hprof_grammar.proofs.Bytes.{number-lt, number_parts, zeros-bytes}
use Rattle.hprof_grammar.proofs.Fields.{Breaks, Spoils, breaks_here, breaks_one, spelled_one}

-- the bytes are the spelling of `value`, and then `rest`
pub record Taken {A : Type 0} (IsWell : A → Type 0) (fields : A → List Field) (bytes : List ℕ) (value : A)
    (rest : List ℕ) : Type 0 where
  pub well : IsWell value
  pub allowed : AreAllowed (fields value)
  pub bytes_are : bytes ≡ spelled (fields value) ++ rest

-- Reading returns exactly the values that are spelled, and a flaw exactly if the fields of a value break off. IsWell
-- says what the types of a value's fields do not say, except that type codes may be any.
pub record IsFormat {A : Type 0} (IsWell : A → Type 0) (fields : A → List Field)
    (read : List ℕ → Result (A × List ℕ) Flaw) : Type 0 where
  -- some value, since anything may follow a flaw
  pub sample : A
  pub sample_well : IsWell sample
  pub takes : (bytes : List ℕ) (z : A × List ℕ) → IsBytes bytes → read bytes ≡ Ok z → Taken IsWell fields bytes z.0 z.1
  pub again : (x : A) (rest : List ℕ) → IsWell x → AreAllowed (fields x)
      → read (spelled (fields x) ++ rest) ≡ Ok (x, rest)
  pub fails : (bytes : List ℕ) (flaw : Flaw) → IsBytes bytes → read bytes ≡ Err flaw → (x : A) × IsWell x
      × Breaks flaw (fields x) bytes
  pub fails_again : (x : A) (bytes : List ℕ) (flaw : Flaw) → IsWell x → Breaks flaw (fields x) bytes
      → read bytes ≡ Err flaw

-- ---- results

pub ok_same : {X E : Type 0} (x y : X) → ◌≡◌ {A = Result X E} (Ok x) (Ok y) → x ≡ y
ok_same x y e = cc

err_same : {X E : Type 0} (x y : E) → ◌≡◌ {A = Result X E} (Err x) (Err y) → x ≡ y
err_same x y e = cc

-- if the second of two steps returned a value, so did the first
pub bind_ok : {A B : Type 0} (r : Result A Flaw) (f : A → Result B Flaw) (y : B) → r >>= f ≡ Ok y → (x : A)
    × (r ≡ Ok x) × (f x ≡ Ok y)
bind_ok (Ok x) f y e = (x, refl, e)
bind_ok (Err z) f y e = absurd (cc)

pub bind_err : {A B : Type 0} (r : Result A Flaw) (f : A → Result B Flaw) (flaw : Flaw) → r >>= f ≡ Err flaw
    → (r ≡ Err flaw) ⊎ ((x : A) × (r ≡ Ok x) × (f x ≡ Err flaw))
bind_err (Ok x) f flaw e = inr (x, refl, e)
bind_err {B = B} (Err z) f flaw e = inl (ap Err (err_same {X = B} z flaw e))

-- if the second step always returns a value, a flaw is that of the first
pub map_err : {A B : Type 0} (r : Result A Flaw) (f : A → B) (flaw : Flaw)
    → ◌≡◌ {A = Result B Flaw} (r >>= λ x. Ok (f x)) (Err flaw) → r ≡ Err flaw
map_err (Ok x) f flaw e = absurd (cc)
map_err {B = B} (Err z) f flaw e = ap Err (err_same {X = B} z flaw e)

test_ok : {X E : Type 0} (b : Bool) (flaw : E) (x y : X) → (if b then Err flaw else Ok x) ≡ Ok y → (b ≡ false) × (x ≡ y)
test_ok true flaw x y e = absurd (cc)
test_ok {E = E} false flaw x y e = (refl, ok_same {E = E} x y e)

test_err : {X E : Type 0} (b : Bool) (flaw other : E) (x : X) → ◌≡◌ {A = Result X E} (if b then Err flaw else Ok x)
    (Err other) → (b ≡ true) × (flaw ≡ other)
test_err {X = X} true flaw other x e = (refl, err_same {X = X} flaw other e)
test_err false flaw other x e = absurd (cc)

type_ok : {X E : Type 0} (b : Bool) (flaw : E) (x y : X) → (if b then Ok x else Err flaw) ≡ Ok y → (b ≡ true) × (x ≡ y)
type_ok {E = E} true flaw x y e = (refl, ok_same {E = E} x y e)
type_ok false flaw x y e = absurd (cc)

type_err : {X E : Type 0} (b : Bool) (flaw other : E) (x : X) → ◌≡◌ {A = Result X E} (if b then Ok x else Err flaw)
    (Err other) → (b ≡ false) × (flaw ≡ other)
type_err true flaw other x e = absurd (cc)
type_err {X = X} false flaw other x e = (refl, err_same {X = X} flaw other e)

-- ---- numbers

number_whole : (w : ℕ) (bytes : List ℕ) → w ≤ length bytes → number_at w bytes ≡ Ok (big_number w bytes, drop w bytes)
number_whole w bytes h = rw (le-ltb (length bytes) w h) refl

number_cut : (w : ℕ) (bytes : List ℕ) → length bytes < w → number_at w bytes ≡ Err Short
number_cut w bytes h = rw (lt-ltb (length bytes) w h) refl

number_again : (w x : ℕ) (rest : List ℕ) → x < 256 ^ w → number_at w (big_bytes w x ++ rest) ≡ Ok (x, rest)
number_again w x rest h =
    number_whole w (big_bytes w x ++ rest)
    (omega (arith, length-append (big_bytes w x) rest, length-bytes_high_first w x))
    ∙ rw (big_number-reads_back w x rest h, behind_number w x rest) refl

number_takes : (w : ℕ) (bytes : List ℕ) (z : ℕ × List ℕ) → IsBytes bytes → number_at w bytes ≡ Ok z
    → Taken (λ x. x < 256 ^ w) (λ x. number w x ∷ []) bytes z.0 z.1
number_takes w bytes z h e =
    let t = test_ok (nat_lt (length bytes) w) Short (big_number w bytes, drop w bytes) z e in
    rw (← t.1) (record {
      well = number-lt w bytes h;
      allowed = (tt, tt);
      bytes_are = number_parts w bytes h (ltb-false (length bytes) w t.0)
          ∙ sym (spelled_one (number w (big_number w bytes)) (drop w bytes));
    })

-- the bytes, and zeros up to n bytes if they are fewer
abbrev filled : ℕ → List ℕ → List ℕ
filled n bytes = bytes ++ replicate (n - length bytes) 0

filled-length : (n : ℕ) (bytes : List ℕ) → length bytes ≤ n → length (filled n bytes) ≡ n
filled-length n bytes h =
    omega (arith, length-append bytes (replicate (n - length bytes) 0), length-replicate {A = ℕ} (n - length bytes) 0)

filled-more : (n : ℕ) (bytes : List ℕ) → length bytes < n → 0 < length {A = ℕ} (replicate (n - length bytes) 0)
filled-more n bytes h = omega (arith, length-replicate {A = ℕ} (n - length bytes) 0)

number_fails : (w : ℕ) (bytes : List ℕ) (flaw : Flaw) → IsBytes bytes → number_at w bytes ≡ Err flaw → (x : ℕ)
    × (x < 256 ^ w) × Breaks flaw (number w x ∷ []) bytes
number_fails w bytes flaw h e =
    let t = test_err (nat_lt (length bytes) w) Short flaw (big_number w bytes, drop w bytes) e in
    let short : length bytes < w = ltb-true (length bytes) w t.0 in
    let whole = filled w bytes in
    let size : length whole ≡ w = filled-length w bytes (omega arith) in
    let are = bytes-join bytes (replicate (w - length bytes) 0) h (zeros-bytes (w - length bytes)) in
    let spells : big_bytes w (big_number w whole) ≡ whole = bytes_of_number w whole are (omega arith)
    ∙ take_all w whole (omega arith) in (
      big_number w whole,
      number-lt w whole are,
      rw (← t.1) (breaks_here Short (number w (big_number w whole)) [] bytes
          (replicate (w - length bytes) 0, spells, filled-more w bytes short)),
    )

number_fails_again : (w x : ℕ) (bytes : List ℕ) (flaw : Flaw) → Spoils flaw (number w x) bytes
    → number_at w bytes ≡ Err flaw
number_fails_again w x bytes Short s =
    number_cut w bytes (omega (arith, s.2, ap length s.1, length-append bytes s.0, length-bytes_high_first w x))
number_fails_again w x bytes flaw s = absurd s

pub number_format : (w : ℕ) → IsFormat (λ x. x < 256 ^ w) (λ x. number w x ∷ []) (number_at w)
number_format w = record {
  sample = 0;
  sample_well = one-le-pow w 256 (omega arith);
  takes = number_takes w;
  again = λ x rest h allowed. rw (spelled_one (number w x) rest) (number_again w x rest h);
  fails = number_fails w;
  fails_again = λ x bytes flaw h b. number_fails_again w x bytes flaw (breaks_one flaw (number w x) bytes b);
}

-- ---- bytes that spell themselves

raw_whole : (n : ℕ) (bytes : List ℕ) → n ≤ length bytes → raw_at n bytes ≡ Ok (take n bytes, drop n bytes)
raw_whole n bytes h = rw (le-ltb (length bytes) n h) refl

raw_cut : (n : ℕ) (bytes : List ℕ) → length bytes < n → raw_at n bytes ≡ Err Short
raw_cut n bytes h = rw (lt-ltb (length bytes) n h) refl

raw_again : (n : ℕ) (text rest : List ℕ) → length text ≡ n → raw_at n (text ++ rest) ≡ Ok (text, rest)
raw_again n text rest h = raw_whole n (text ++ rest) (omega (arith, length-append text rest))
    ∙ rw (first_bytes n text rest h, behind_bytes n text rest h) refl

raw_takes : (n : ℕ) (bytes : List ℕ) (z : List ℕ × List ℕ) → raw_at n bytes ≡ Ok z
    → Taken (λ x. length x ≡ n) (λ x. raw x ∷ []) bytes z.0 z.1
raw_takes n bytes z e =
    let t = test_ok (nat_lt (length bytes) n) Short (take n bytes, drop n bytes) z e in
    rw (← t.1) (record {
      well = length-take-le n bytes (ltb-false (length bytes) n t.0);
      allowed = (tt, tt);
      bytes_are = sym (take-append-drop n bytes) ∙ sym (spelled_one (raw (take n bytes)) (drop n bytes));
    })

raw_fails : (n : ℕ) (bytes : List ℕ) (flaw : Flaw) → raw_at n bytes ≡ Err flaw → (x : List ℕ) × (length x ≡ n)
    × Breaks flaw (raw x ∷ []) bytes
raw_fails n bytes flaw e =
    let t = test_err (nat_lt (length bytes) n) Short flaw (take n bytes, drop n bytes) e in
    let short : length bytes < n = ltb-true (length bytes) n t.0 in (
      filled n bytes,
      filled-length n bytes (omega arith),
      rw (← t.1) (breaks_here Short (raw (filled n bytes)) [] bytes
          (replicate (n - length bytes) 0, refl, filled-more n bytes short)),
    )

raw_fails_again : (n : ℕ) (x bytes : List ℕ) (flaw : Flaw) → length x ≡ n → Spoils flaw (raw x) bytes
    → raw_at n bytes ≡ Err flaw
raw_fails_again n x bytes Short h s = raw_cut n bytes (omega (arith, s.2, ap length s.1, length-append bytes s.0))
raw_fails_again n x bytes flaw h s = absurd s

pub raw_format : (n : ℕ) → IsFormat (λ x. length x ≡ n) (λ x. raw x ∷ []) (raw_at n)
raw_format n = record {
  sample = replicate n 0;
  sample_well = length-replicate n 0;
  takes = λ bytes z h. raw_takes n bytes z;
  again = λ x rest h allowed. rw (spelled_one (raw x) rest) (raw_again n x rest h);
  fails = λ bytes flaw h. raw_fails n bytes flaw;
  fails_again = λ x bytes flaw h b. raw_fails_again n x bytes flaw h (breaks_one flaw (raw x) bytes b);
}

-- ---- type codes

type_takes : (place : TypePlace) (bytes : List ℕ) (z : ℕ × List ℕ) → type_at place bytes ≡ Ok z
    → Taken (λ x. Unit {0}) (λ x. type_code place x ∷ []) bytes z.0 z.1
type_takes place [] z e = absurd (cc)
type_takes place (t ∷ rest) z e =
    let b = type_ok (is_type_at place t) WrongType (t, rest) z e in
    rw (← b.1) (record { well = tt; allowed = (b.0, tt); bytes_are = refl })

type_again : (place : TypePlace) (t : ℕ) (rest : List ℕ) → is_type_at place t ≡ true
    → type_at place (t ∷ rest) ≡ Ok (t, rest)
type_again place t rest h = rw h refl

type_fails : (place : TypePlace) (bytes : List ℕ) (flaw : Flaw) → type_at place bytes ≡ Err flaw → (x : ℕ) × Unit {0}
    × Breaks flaw (type_code place x ∷ []) bytes
type_fails place [] flaw e = (
  0,
  tt,
  rw (← err_same {X = ℕ × List ℕ} Short flaw e)
      (breaks_here Short (type_code place 0) [] [] (0 ∷ [], refl, omega arith)),
)
type_fails place (t ∷ rest) flaw e =
    let b = type_err (is_type_at place t) WrongType flaw (t, rest) e in (
      t,
      tt,
      rw (← b.1) (breaks_here WrongType (type_code place t) [] (t ∷ rest) (b.0, (rest, refl))),
    )

type_fails_again : (place : TypePlace) (x : ℕ) (bytes : List ℕ) (flaw : Flaw) → Spoils flaw (type_code place x) bytes
    → type_at place bytes ≡ Err flaw
type_fails_again place x [] Short s = refl
type_fails_again place x (t ∷ rest) Short s = absurd (omega (arith, s.2, ap length s.1, length-append (t ∷ rest) s.0))
type_fails_again place x bytes WrongType s = rw s.1.1 (rw s.0 refl)
type_fails_again place x bytes UnknownTag s = absurd s

pub type_format : (place : TypePlace) → IsFormat (λ x. Unit {0}) (λ x. type_code place x ∷ []) (type_at place)
type_format place = record {
  sample = 0;
  sample_well = tt;
  takes = λ bytes z h. type_takes place bytes z;
  again = λ x rest h allowed. type_again place x rest allowed.0;
  fails = λ bytes flaw h. type_fails place bytes flaw;
  fails_again = λ x bytes flaw h b. type_fails_again place x bytes flaw (breaks_one flaw (type_code place x) bytes b);
}
