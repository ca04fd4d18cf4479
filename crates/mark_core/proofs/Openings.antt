-- The law holds of an opening marking.
use Rattle.std.proofs.Common.{◌≡◌, ℕ, zero, suc, ◌+◌, ◌<◌, ◌≤◌, nat_lt, List, [], ◌∷◌, Option, Some, None}
use Rattle.std.proofs.Common.{Contains, if◌then◌else◌, length, replicate, ap, refl, subst, inl, lt-ltb}
use Rattle.std.proofs.Common.{le-ltb, arith}
use lib.ListN.{length-replicate}
use Rattle.std.specs.List.{range_with_len}
use Rattle.std.proofs.lemmas.List.FromFn.{length-range_with_len}
use Rattle.mark_core.proofs.Words.{Which, Full, Empty, StandsAt, times, one_where, Account, look_of, part, Setup}
use Rattle.mark_core.proofs.Words.{Chain, IsOwned, AreInSlots, IsRecent, IsColoured, stacked_times, IsShared}
use Rattle.mark_core.proofs.Words.{HasNothing, whole, Law, first_heads, first_link, opening, first_length}
use Rattle.mark_core.proofs.Places.{OfEach, one_all}
use Rattle.mark_core.proofs.Chains.{recent_bare}
use Rattle.mark_core.proofs.Ownership.{counted_below}
use Rattle.mark_core.proofs.Chosen.{times-range}

-- the number k if it is below `buffers`, and None otherwise
abbrev below : ℕ → ℕ → Option ℕ
below buffers k = if nat_lt k buffers then Some k else None

chain_numbers : (buffers n k : ℕ) → k + n ≡ buffers → Chain (first_link buffers) (below buffers k) (range_with_len k n)
chain_numbers buffers zero k e = ap (λ t. if t then Some k else None) (le-ltb k buffers (omega arith))
chain_numbers buffers (suc n) k e = (
  ap (λ t. if t then Some k else None) (lt-ltb k buffers (omega arith)),
  chain_numbers buffers n (k + 1) (omega arith),
)

at_replicate : {X : Type 0} (n i : ℕ) (x : X) → i < n → StandsAt (replicate n x) i x
at_replicate zero i x h = absurd (omega arith)
at_replicate (suc n) zero x h = refl
at_replicate (suc n) (suc i) x h = at_replicate n i x (omega arith)

stacked_nowhere : (n o : ℕ) → stacked_times o (replicate n (Some [])) ≡ 0
stacked_nowhere zero o = refl
stacked_nowhere (suc n) o = omega (arith, stacked_nowhere n o)

module _ (e : Setup) (tag : ℕ) (some_buffer : 0 < e.buffers) where
  first_stack : Which → List ℕ
  first_stack Full = []
  first_stack Empty = range_with_len 0 e.buffers

  first_owned : IsOwned e.buffers (first_heads tag) (first_link e.buffers) (part whole ∷ []) first_stack
  unfolding first_stack
  first_owned = record {
    chain = chain;
    once = λ b. omega (arith, times-range b e.buffers);
    recent = recent;
    owed = inl refl;
  }
    where
      chain : (q : Which) → Chain (first_link e.buffers) (first_heads tag q).index (first_stack q)
      chain Full = refl
      chain Empty =
          subst (λ n. Chain (first_link e.buffers) n (range_with_len 0 e.buffers))
          (ap (λ t. if t then Some 0 else None) (lt-ltb 0 e.buffers some_buffer))
          (chain_numbers e.buffers e.buffers 0 (omega arith))

      recent : (q : Which) → OfEach (λ a. IsRecent (first_link e.buffers) (first_heads tag q) (look_of a q))
          (part whole ∷ [])
      recent q = one_all (λ a. IsRecent (first_link e.buffers) (first_heads tag q) (look_of a q)) (part whole)
          (recent_bare (first_link e.buffers) (first_heads tag) (part whole) refl refl q)

  first_in_slots : AreInSlots e.buffers (replicate e.buffers (Some [])) first_stack
  unfolding first_stack
  first_in_slots = record { places = length-replicate e.buffers (Some []); stacked = stacked; bare = bare; away = away }
    where
      bare : (b : ℕ) → 0 < times b (first_stack Empty)
          → StandsAt {X = Option (List ℕ)} (replicate e.buffers (Some [])) b (Some [])
      bare b h = at_replicate e.buffers b (Some []) (counted_below b e.buffers (omega (arith, times-range b e.buffers)))

      stacked : (q : Which) (b : ℕ) → 0 < times b (first_stack q) → (items : List ℕ)
          × StandsAt {X = Option (List ℕ)} (replicate e.buffers (Some [])) b (Some items)
      stacked Full b h = absurd (omega arith)
      stacked Empty b h = ([], bare b h)

      away : (b : ℕ) → b < e.buffers → times b (first_stack Full) ≡ 0 → times b (first_stack Empty) ≡ 0
          → StandsAt {X = Option (List ℕ)} (replicate e.buffers (Some [])) b None
      away b l f g = absurd (omega (arith, times-range b e.buffers, ap one_where (lt-ltb b e.buffers l)))

  first_coloured : IsColoured e (λ o. 0) (replicate e.buffers (Some [])) (part whole ∷ [])
  first_coloured =
      record {
        colours = λ o. inl (refl, omega (arith, stacked_nowhere e.buffers o), refl);
        closed = λ o s two pair. absurd (omega arith);
        reachable = λ o one. absurd (omega arith);
        saw =
            one_all (λ (a : Account). (o : ℕ) → Contains a.seen o → 1 ≤ 0) (part whole)
            (λ o k. absurd (omega (arith, k.1)));
      }

  first_shared : IsShared (part whole ∷ [])
  first_shared = record {
    sum = omega arith;
    no_share = one_all (λ (a : Account). a.share ≡ 0 → HasNothing a) (part whole) (λ none. absurd (omega arith));
  }

  pub opening_keeps : Law e (opening e tag)
  opening_keeps = record {
    stack = first_stack;
    owned = first_owned;
    in_slots = first_in_slots;
    coloured = first_coloured;
    shared = first_shared;
  }

  -- how many buffers each stack has
  pub opening_length : (q : Which) → length (opening_keeps.stack q) ≡ first_length e q
  unfolding first_stack opening_keeps
  opening_length Full = refl
  opening_length Empty = length-range_with_len 0 e.buffers
