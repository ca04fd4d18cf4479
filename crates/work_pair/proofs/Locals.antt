-- Changes of a pair that do not touch the stacks.
use Rattle.std.proofs.Common.{◌≡◌, ℕ, ◌+◌, List, [], ◌∷◌, ◌++◌, Option, Some, None, MatchOption, refl, sym, ap}
use Rattle.std.proofs.Common.{◌∙◌, inl, inr, arith}
use Rattle.mark_core.specs.Lists.{times, only}
use Rattle.mark_core.proofs.Sums.{sum_of-append}
use Rattle.buffer_pool.specs.Calls.{HeldBuffer}
use Rattle.work_pair.specs.PairState.{PairState, items_at}
use Rattle.work_pair.specs.working.Steps.{IsLocal, Takes, positions}
use Rattle.work_pair.proofs.Trading.{items_sum, numbers_sum}

-- the two buffers exchange positions
pub swapped : {f s t x y : Option HeldBuffer} → x ≡ s → y ≡ f → IsLocal (positions f s t) (positions x y t) [] []
swapped {f} {s} {t} x_is y_is =
    rw (x_is, y_is)
    (record {
      items = λ o. omega (arith, items_sum o (positions f s t), items_sum o (positions s f t));
      buffers = λ i. omega (arith, numbers_sum i (positions f s t), numbers_sum i (positions s f t));
      sized = λ size of. record { first = of.second; second = of.first; third = of.third };
    })

-- the items of the first buffer change
first_changed : {f s t g : Option HeldBuffer} {h k : HeldBuffer} → f ≡ Some h → g ≡ Some k
    → k ≡ record h { items = k.items } → (put got : List ℕ)
    → ((x : ℕ) → times x k.items + times x got ≡ times x h.items + times x put)
    → IsLocal (positions f s t) (positions g s t) put got
first_changed {s} {t} {h} {k} f_is g_is same put got items =
    rw (f_is, g_is)
    (record {
      items = λ x. omega (
        arith,
        items x,
        items_sum x (positions (Some h) s t),
        items_sum x (positions (Some k) s t),
      );
      buffers = λ i. omega (
        arith,
        numbers_sum i (positions (Some h) s t),
        numbers_sum i (positions (Some k) s t),
        ap (λ (m : HeldBuffer). times i (m.index ∷ [])) same,
      );
      sized = λ size of. record {
        first = ap (λ (m : HeldBuffer). m.size) same ∙ of.first;
        second = of.second;
        third = of.third;
      };
    })

-- an object is put into the first buffer
pub put_first : {f s t g : Option HeldBuffer} {h : HeldBuffer} {o : ℕ} → f ≡ Some h
    → g ≡ Some (record h { items = h.items ++ o ∷ [] }) → IsLocal (positions f s t) (positions g s t) (o ∷ []) []
put_first {h} {o} f_is g_is =
    first_changed f_is g_is refl (o ∷ []) [] (λ x. omega (arith, sum_of-append (only x) h.items (o ∷ [])))

-- an object is taken from the first buffer
take_first : {f s t g : Option HeldBuffer} {h k : HeldBuffer} {o : ℕ} → f ≡ Some h → g ≡ Some k
    → h.items ≡ k.items ++ o ∷ [] → k ≡ record h { items = k.items }
    → IsLocal (positions f s t) (positions g s t) [] (o ∷ [])
take_first {k} {o} f_is g_is last same =
    first_changed f_is g_is same [] (o ∷ [])
    (λ x. omega (arith, ap (times x) last, sum_of-append (only x) k.items (o ∷ [])))

-- two changes in sequence are one
pub local_again : {p q r : PairState} {put got : List ℕ} → IsLocal p q [] [] → IsLocal q r put got
    → IsLocal p r put got
local_again a b =
    record {
      items = λ o. omega (arith, a.items o, b.items o);
      buffers = λ i. b.buffers i ∙ a.buffers i;
      sized = λ size of. b.sized size (a.sized size of);
    }

-- taking an object from the first buffer takes it from the pair
pub taken_first : (f s t g : Option HeldBuffer) (o : ℕ) → (h : HeldBuffer) × (k : HeldBuffer) × (f ≡ Some h)
    × (g ≡ Some k) × (h.items ≡ k.items ++ o ∷ []) × (k ≡ record h { items = k.items })
    → Takes (positions f s t) (positions g s t) (Some o)
taken_first f s t g o told = (
  take_first told.2 told.3 told.4 told.5,
  refl,
  inl ((told.0, told.1.items, told.2, told.4, told.3 ∙ ap Some told.5), refl),
)

-- taking from the second buffer, which is first after the exchange, takes from the pair if the first has no items
pub taken_second : (f s t x y g : Option HeldBuffer) → x ≡ s → y ≡ f → items_at f ≡ [] → (r : Option ℕ)
    → MatchOption r ((items_at x ≡ []) × (g ≡ x)) (λ o. (h : HeldBuffer) × (k : HeldBuffer) × (x ≡ Some h)
    × (g ≡ Some k) × (h.items ≡ k.items ++ o ∷ []) × (k ≡ record h { items = k.items }))
    → Takes (positions f s t) (positions g y t) r
taken_second f s t x y g x_is y_is none None told = (
  swapped (told.1 ∙ x_is) y_is,
  refl,
  (none, ap items_at (sym x_is) ∙ told.0, told.1 ∙ x_is, y_is),
)
taken_second f s t x y g x_is y_is none (Some o) told = (
  local_again (swapped x_is y_is) (take_first told.2 told.3 told.4 told.5),
  refl,
  inr (none, (told.0, told.1.items, sym x_is ∙ told.2, told.4, told.3 ∙ ap Some told.5), y_is),
)
