-- The words and buffers are those of an opening, and the first worker has finished nothing. The proof leaves the first
-- tag open, and the clause fixes it as the requested one.
use Rattle.buffer_pool.proofs.Words.{All, Buffer, HasFirstWords, IsInside, IsLaid, IsSound, Key, Me, Option, SeatView}
use Rattle.buffer_pool.proofs.Words.{ap, arith, buffer_reading, length, mark_words, setup_of, subst, sym, ℕ, ◌+◌, ◌<◌}
use Rattle.buffer_pool.proofs.Starts.{starts, laid_first, sound_first}
use Rattle.buffer_pool.proofs.pool.Pool.new.Given as given
use Rattle.buffer_pool.proofs.pool.Pool.new.Goals as goal

pub new-requires : goal.new-requires
new-requires g c =
    let inside : IsInside c.objects-objects.result c.args.buffers c.args.size c.args.first_tag =
    c.is_inside.ensures.0 c.if-not-is_inside.false in
    starts buffer_reading _ c.as_slice.result.now c.in_ok-slots.slots.items (omega (arith, inside.few))
    (subst (HasFirstWords (32 + c.args.buffers + mark_words c.objects-objects.result) _ c.args.buffers)
    (sym c.as_slice.ensures.value) c.in_ok-words.ensures) c.in_ok-slots.ensures.0 c.in_ok-slots.ensures.1

-- the key with first tag `tag`
key_of : (g : given.Over) → goal.In-Ok g → ℕ → Key
key_of g c tag =
    record {
      named = c.of.result;
      objects = c.objects-objects.result;
      buffers = c.args.buffers;
      size = c.args.size;
      first_tag = tag;
    }

laid : (g : given.Over) (c : goal.In-Ok g) (tag : ℕ) → IsLaid c.in-Ok.table.shared.table_id (setup_of (key_of g c tag))
unfolding key_of
laid g c tag =
    let inside : IsInside c.objects-objects.result c.args.buffers c.args.size c.args.first_tag =
    c.is_inside.ensures.0 c.if-not-is_inside.false in
    let first =
    subst (HasFirstWords (32 + c.args.buffers + mark_words c.objects-objects.result) _ c.args.buffers)
    (sym c.as_slice.ensures.value) c.in_ok-words.ensures in
    laid_first c.in-Ok.table.shared.table_id (setup_of (key_of g c tag)) _ c.args.first_tag c.as_slice.result.now
    (length c.in_ok-slots.slots.items) c.in-Ok.ensures.ok.0 c.in-Ok.ensures.ok.1 first c.in_ok-slots.ensures.0 inside
    (subst (All (λ o. o < c.objects-objects.result)) (sym c.of.ensures.0) c.objects-objects.ensures.roots)
    (subst (All (λ p. (p.0 < c.objects-objects.result) × (p.1 < c.objects-objects.result))) (sym c.of.ensures.1)
    c.objects-objects.ensures.pairs)

pub invariant_of-result : goal.invariant_of-result
unfolding key_of
invariant_of-result g c = (
  subst (λ (k : Key). IsLaid c.in-Ok.table.shared.table_id (setup_of k)) (sym c.in-Ok.ensures.ok.5) (laid g c _),
  sym (ap (λ (k : Key). k.buffers) c.in-Ok.ensures.ok.5),
  sym (ap (λ (k : Key). k.objects) c.in-Ok.ensures.ok.5),
)

-- what the first worker makes its steps with
abbrev Seat : given.Over → Type 0
Seat g = Me (Option (Buffer g.row.A.Denot)) SeatView

laid_there : (g : given.Over) (c : goal.In-Ok g) (tag : ℕ) → IsLaid c.in-Ok.seat.table_id (setup_of (key_of g c tag))
laid_there g c tag = subst (λ t. IsLaid t (setup_of (key_of g c tag))) (sym c.in-Ok.ensures.ok.2) (laid g c tag)

pub invariant_of-result-2 : goal.invariant_of-result-2
unfolding key_of
invariant_of-result-2 g c = (
  subst (IsSound c.in-Ok.seat.table_id) (sym c.in-Ok.ensures.ok.4)
      (sound_first c.in-Ok.seat.table_id _ (laid_there g c _)),
  sym (ap (λ (m : Seat g). length m.0.book.account.finished) c.in-Ok.ensures.ok.4),
)
