-- The rows and the bytes of objects.
use Rattle.heap_graph.proofs.Words.{Class, Fate, HaveFates, IsLinked, LabelledValue, List, None, Sight, Some, Static}
use Rattle.heap_graph.proofs.Words.{SubRecord, TableEntry, [], ap, arith, class_dumps, class_number, ids_of, map}
use Rattle.heap_graph.proofs.Words.{of_static, position, position_or_len, refl, size_of, slice_get, suc, sum_by}
use Rattle.heap_graph.proofs.Words.{sum_by-cons, sym, take, zero, ℕ, ◌++◌, ◌+◌, ◌==◌, ◌∙◌, ◌∷◌, ◌≡◌}
use Rattle.heap_graph.proofs.Firsts.{position_at, position_or_len-map}

-- the number of a class is its position among the identifiers of the classes
pub same_number : (heap : List SubRecord) (ids : List ℕ) (id : ℕ)
    → ids ≡ map (λ (c : Class). c.object) (class_dumps heap) → position_or_len (λ x. x == id) ids ≡ class_number heap id
same_number heap ids id are =
    ap (λ (xs : List ℕ). position_or_len (λ x. x == id) xs) are
    ∙ position_or_len-map (λ (c : Class). c.object) (λ x. x == id) (class_dumps heap)

-- and so is that of a class that was found in the table
pub number_told : (v : Sight) (heap : List SubRecord) (entries : List TableEntry) (fates : List Fate) (id class k : ℕ)
    → HaveFates v heap entries fates → Some k ≡ position (λ x. x == id) (ids_of entries) → id ≡ class
    → IsLinked v.id_size heap → k ≡ class_number heap class
number_told v heap entries fates id class k told found same linked =
    position_at (λ x. x == id) (ids_of entries) k found
    ∙ same_number heap (ids_of entries) id (told.classes.in_order linked) ∙ ap (λ (x : ℕ). class_number heap x) same

pub static_bytes : (s : ℕ) (fs : List Static)
    → sum_by (λ v. size_of s v.type) (map of_static fs) ≡ sum_by (λ f. size_of s f.type) fs
static_bytes s [] = refl
static_bytes s (f ∷ fs) =
    sum_by-cons (λ (v : LabelledValue). size_of s v.type) (of_static f) (map of_static fs)
    ∙ ap (λ (n : ℕ). size_of s f.type + n) (static_bytes s fs)
    ∙ sym (sum_by-cons (λ (x : Static). size_of s x.type) f fs)

-- one more object
pub take_one : {X : Type 0} (xs : List X) (n : ℕ) (x : X) → slice_get xs n ≡ Some x
    → take (n + 1) xs ≡ take n xs ++ x ∷ []
take_one [] n x h = absurd (let wrong : None ≡ Some x = h in cc)
take_one (y ∷ ys) zero x h = let same : y ≡ x = cc in ap (λ z. z ∷ []) same
take_one (y ∷ ys) (suc n) x h =
    let e : suc n + 1 ≡ suc (n + 1) = omega arith in
    ap (λ (k : ℕ). take k (y ∷ ys)) e ∙ ap (λ zs. y ∷ zs) (take_one ys n x h)

pub map_one : {X Y : Type 0} (f : X → Y) (xs : List X) (x : X) → map f (xs ++ x ∷ []) ≡ map f xs ++ f x ∷ []
map_one f [] x = refl
map_one f (y ∷ ys) x = ap (λ zs. f y ∷ zs) (map_one f ys x)
