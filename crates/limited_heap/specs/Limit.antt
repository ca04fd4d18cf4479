-- What a clause reads of a `LimitedHeap`. No clause can read the number of requests made, since threads count requests
-- through a `&`.
use Rattle.std.specs.Prelude.{ℕ, Bool, true, false, Option, Some, None}
use Rattle.limited_heap.specs.declared.heap.LimitedHeap.{LimitedHeap}

-- the number of requests granted before one is refused
abbrev pub request_limit : {A : Type 0} → LimitedHeap A → ℕ
request_limit h = h.quota.granted

-- n if only one request is refused, or else none
abbrev pub alone_of : Bool → ℕ → Option ℕ
alone_of true n = Some n
alone_of false n = None

-- the number, from 0, of the only request that is refused; none if all later ones are refused too
abbrev pub refused_request : {A : Type 0} → LimitedHeap A → Option ℕ
refused_request h = alone_of h.quota.alone h.quota.granted
