-- The remaining identifiers of an instance, while they are returned one after another, and their number.
use Rattle.heap_graph.proofs.Words.{AreUp, ClassPlan, Fate, HasFields, HaveFields, List, None, Option, Some}
use Rattle.heap_graph.proofs.Words.{StandInside, Up, Up-prop, [], ap, arith, big_from-take, big_number, drop, drop-take}
use Rattle.heap_graph.proofs.Words.{id_places_of, ids_at, ids_up, length, length-append, length-drop, length-map}
use Rattle.heap_graph.proofs.Words.{length-take, next_above, plan_at, refl, slice_get, subst, suc, sym, take, zero, ℕ}
use Rattle.heap_graph.proofs.Words.{◌++◌, ◌+◌, ◌-◌, ◌<◌, ◌∙◌, ◌∷◌, ◌≡◌, ◌≤◌}

pub nothing_stands : (s : ℕ) (values : List ℕ) → StandInside s [] 0 values
nothing_stands s values = record
    { inside = λ k place is. absurd (let wrong : None ≡ Some place = is in cc); few = omega arith; room = omega arith }

same_up : (known : List Fate) (first : Option ℕ) (ks ms : List ℕ) → AreUp known first ks → AreUp known first ms
    → ks ≡ ms
same_up known first ks ms h e = ap (λ (u : Up known first). u.0) (Up-prop known first (ks, h) (ms, e))

none_above : (known : List Fate) (ks : List ℕ) → AreUp known None ks → ks ≡ []
none_above known [] h = refl
none_above known (k ∷ ks) h = absurd (let wrong : None ≡ Some k = h.0 in cc)

none_there : (here : List ℕ) → length here ≡ 0 → here ≡ []
none_there [] e = refl
none_there (p ∷ ps) e = absurd (omega (arith, e))

number_within : (s place own : ℕ) (values : List ℕ) → place + s ≤ own
    → big_number s (drop place (take own values)) ≡ big_number s (drop place values)
number_within s place own values h =
    let parts : own ≡ place + (own - place) = omega (arith, h) in
    ap (λ (n : ℕ). big_number s (drop place (take n values))) parts
    ∙ ap (big_number s) (drop-take place (own - place) values)
    ∙ big_from-take 0 s (own - place) (drop place values) (omega (arith, h))

pub fewer_left : (ids left : List ℕ) (id : ℕ) → ids ≡ id ∷ left → length left < length ids
fewer_left ids left id e = omega (arith, ap length e)

-- ---- the first remaining place in the class

module _ {s own : ℕ} {here values : List ℕ} (rest : List ℕ) (place : ℕ) (stand : StandInside s here own values)
    (e : here ≡ place ∷ rest) where
  first_within : place + s ≤ own
  first_within = omega (arith, stand.inside 0 place (ap (λ (ps : List ℕ). slice_get ps 0) e))

  rest_stands : StandInside s rest own values
  rest_stands = record {
    inside = λ k p is. stand.inside (suc k) p (ap (λ (ps : List ℕ). slice_get ps (suc k)) e ∙ is);
    few = omega (arith, stand.few, ap length e);
    room = stand.room;
  }

  -- the identifier there is read among the values of the class
  pub first_room : (own_values : List ℕ) → own_values ≡ take own values → place + s ≤ length own_values
  first_room own_values is = rw is (omega (arith, stand.room, length-take own values, first_within))

  pub first_read : (own_values : List ℕ) (id : ℕ) → own_values ≡ take own values
      → id ≡ big_number s (drop place own_values) → id ≡ big_number s (drop place values)
  first_read own_values id own_is is =
      is ∙ ap (λ (xs : List ℕ). big_number s (drop place xs)) own_is ∙ number_within s place own values first_within

-- the number of classes from `first` up, or n if there are more
abbrev pub steps_up : List Fate → ℕ → Option ℕ → ℕ
steps_up known zero first = 0
steps_up known (suc n) None = 0
steps_up known (suc n) (Some k) = suc (steps_up known n (next_above known k))

steps_are : (known : List Fate) (n : ℕ) (first : Option ℕ) (ks : List ℕ) → AreUp known first ks → length ks ≤ n
    → steps_up known n first ≡ length ks
steps_are known zero first [] h few = refl
steps_are known zero first (k ∷ ks) h few = absurd (omega (arith, few))
steps_are known (suc n) None [] h few = refl
steps_are known (suc n) (Some m) [] h few = absurd (let wrong : Some m ≡ None = h in cc)
steps_are known (suc n) None (k ∷ ks) h few = absurd (let wrong : None ≡ Some k = h.0 in cc)
steps_are known (suc n) (Some m) (k ∷ ks) h few =
    let both : Some m ≡ Some k = h.0 in
    let same : m ≡ k = cc in
    ap suc (ap (λ (x : ℕ). steps_up known n (next_above known x)) same
    ∙ steps_are known n (next_above known k) ks h.1 (omega (arith, few)))

-- ---- the fields of the classes of a plan

module _ (s : ℕ) (plans : List ClassPlan) (places : List ℕ) (known : List Fate) where
  abbrev all_left : List ℕ → ℕ → List ℕ → List ℕ → List ℕ
  all_left here own values ks = ids_at s here values ++ ids_up s plans places ks (drop own values)

  -- `ids` are the remaining identifiers, of a class and of those above it
  pub record IsLeft (here : List ℕ) (own : ℕ) (values ks ids : List ℕ) : Type 0 where
    pub stand : StandInside s here own values
    pub above : HaveFields s plans places known ks (drop own values)
    pub left : ids_at s here values ++ ids_up s plans places ks (drop own values) ≡ ids

  -- k is the first class above, `ks` are all
  pub record HasNext (values : List ℕ) (k : ℕ) (ks : List ℕ) : Type 0 where
    pub rest : List ℕ
    pub are : ks ≡ k ∷ rest
    pub up : AreUp known (next_above known k) rest
    pub fields : HasFields s plans places known values k
    pub above : HaveFields s plans places known rest (drop (plan_at plans k).size values)

  -- of `all` identifiers `counted` are counted; the others are those of the classes from `first` up, of which there are
  -- at most `most`. The count and the length of the classes' values are together at most `bytes`.
  pub record IsCounted (most bytes all : ℕ) (first : Option ℕ) (counted : ℕ) : Type 0 where
    pub classes : List ℕ
    pub values : List ℕ
    pub up : AreUp known first classes
    pub have : HaveFields s plans places known classes values
    pub few_classes : length classes ≤ most
    pub room : counted + length values ≤ bytes
    pub count : counted + length (ids_up s plans places classes values) ≡ all

  pub has_next : (values ks : List ℕ) (next : Option ℕ) (k : ℕ) → next ≡ Some k → AreUp known next ks
      → HaveFields s plans places known ks values → HasNext values k ks
  has_next values [] next k e h have = absurd (let wrong : Some k ≡ None = sym e ∙ h in cc)
  has_next values (m ∷ ms) next k e h have =
      let both : Some m ≡ Some k = sym h.0 ∙ e in
      let same : m ≡ k = cc in
      subst (λ (n : ℕ). HasNext values n (m ∷ ms)) same
      (record { rest = ms; are = refl; up = h.1; fields = have.0; above = have.1 })

  -- the first remaining identifier is returned
  module _ {here : List ℕ} {own : ℕ} {values ks ids : List ℕ} (ms rest : List ℕ) (next : Option ℕ) (place : ℕ)
      (it : IsLeft here own values ks ids) (e : here ≡ place ∷ rest) (h : AreUp known next ks)
      (m : AreUp known next ms) where
    pub first_gone : IsLeft rest own values ms (ids_at s rest values ++ ids_up s plans places ms (drop own values))
    first_gone = record {
      stand = rest_stands rest place it.stand e;
      above = subst (λ (xs : List ℕ). HaveFields s plans places known xs (drop own values))
          (same_up known next ks ms h m) it.above;
      left = refl;
    }

    pub first_given : (id : ℕ) → id ≡ big_number s (drop place values)
        → ids ≡ id ∷ (ids_at s rest values ++ ids_up s plans places ms (drop own values))
    first_given id is =
        sym it.left ∙ ap (λ (ps : List ℕ). all_left ps own values ks) e
        ∙ ap (λ (n : ℕ). n ∷ all_left rest own values ks) (sym is)
        ∙ ap (λ (xs : List ℕ). id ∷ all_left rest own values xs) (same_up known next ks ms h m)

  module _ {here : List ℕ} {own : ℕ} {values ks ids : List ℕ} (it : IsLeft here own values ks ids)
      (none : length here ≡ 0) where
    only_above : ids ≡ ids_up s plans places ks (drop own values)
    only_above = sym it.left ∙ ap (λ (ps : List ℕ). all_left ps own values ks) (none_there here none)

    pub none_left : (next : Option ℕ) → next ≡ None → AreUp known next ks
        → (ids ≡ []) × (ids_at s here values ++ ids_up s plans places ks (drop own values) ≡ [])
    none_left next no_next h =
        let no_class = none_above known ks (subst (λ (f : Option ℕ). AreUp known f ks) no_next h) in
        let nothing = only_above ∙ ap (λ (xs : List ℕ). ids_up s plans places xs (drop own values)) no_class in
        (nothing, it.left ∙ nothing)

    -- after the last identifier of a class those of the next class remain
    pub next_left : (k : ℕ) (its : List ℕ) (size : ℕ) (behind : List ℕ) (above : Option ℕ) (ms : List ℕ)
        → HasNext (drop own values) k ks → its ≡ id_places_of plans places k → size ≡ (plan_at plans k).size
        → behind ≡ drop own values → above ≡ next_above known k → AreUp known above ms → IsLeft its size behind ms ids
    next_left k its size behind above ms n its_are size_is behind_is above_is h =
        let up = subst (λ (f : Option ℕ). AreUp known f ms) above_is h in
        subst (λ (xs : List ℕ). IsLeft its size behind xs ids) (same_up known (next_above known k) n.rest ms n.up up)
        (rw (its_are, size_is, behind_is) (record {
          stand = n.fields.stand;
          above = n.above;
          left = sym (ap (λ (xs : List ℕ). ids_up s plans places xs (drop own values)) n.are) ∙ sym only_above;
        }))

  pub fewer_above : {values : List ℕ} {k : ℕ} {ks : List ℕ} (above : Option ℕ) (ms : List ℕ) → HasNext values k ks
      → above ≡ next_above known k → AreUp known above ms → length ms < length ks
  fewer_above {k = k} above ms n above_is h =
      let up = subst (λ (f : Option ℕ). AreUp known f ms) above_is h in
      omega (arith, ap length n.are, ap length (same_up known (next_above known k) n.rest ms n.up up))

  -- ---- the number of remaining identifiers

  pub none_counted : {here : List ℕ} {own : ℕ} {values ks ids : List ℕ} (next : Option ℕ)
      → IsLeft here own values ks ids → AreUp known next ks
      → IsCounted (length ks) (length values) (length ids) next (length here)
  none_counted {here = here} {own = own} {values = values} {ks = ks} next it h = record {
    classes = ks;
    values = drop own values;
    up = h;
    have = it.above;
    few_classes = omega arith;
    room = omega (arith, it.stand.few, it.stand.room, length-drop own values);
    count = omega (
      arith,
      ap length it.left,
      length-append (ids_at s here values) (ids_up s plans places ks (drop own values)),
      length-map here (λ p. big_number s (drop p values)),
    );
  }

  module _ {most bytes all : ℕ} {first : Option ℕ} {counted k : ℕ} (it : IsCounted most bytes all first counted)
      (e : first ≡ Some k) where
    pub next_counted : HasNext it.values k it.classes
    next_counted = has_next it.values it.classes first k e it.up it.have

    pub more_counted : (its : List ℕ) (above : Option ℕ) → its ≡ id_places_of plans places k
        → above ≡ next_above known k → IsCounted most bytes all above (counted + length its)
    more_counted its above its_are above_is =
        let n = next_counted in
        let size = (plan_at plans k).size in
        let here = id_places_of plans places k in
        rw above_is (record {
          classes = n.rest;
          values = drop size it.values;
          up = n.up;
          have = n.above;
          few_classes = omega (arith, it.few_classes, ap length n.are);
          room = omega (
            arith,
            it.room,
            n.fields.stand.few,
            n.fields.stand.room,
            length-drop size it.values,
            ap length its_are,
          );
          count = omega (
            arith,
            it.count,
            ap length its_are,
            ap (λ (xs : List ℕ). length (ids_up s plans places xs it.values)) n.are,
            length-append (ids_at s here it.values) (ids_up s plans places n.rest (drop size it.values)),
            length-map here (λ p. big_number s (drop p it.values)),
          );
        })

    pub counted_fits : (its : List ℕ) → its ≡ id_places_of plans places k → counted + length its ≤ bytes
    counted_fits its its_are =
        let n = next_counted in
        omega (arith, it.room, n.fields.stand.few, n.fields.stand.room, ap length its_are)

    pub fewer_steps : (above : Option ℕ) → above ≡ next_above known k
        → steps_up known most above < steps_up known most first
    fewer_steps above above_is =
        let n = next_counted in
        let fewer : length n.rest < length it.classes = omega (arith, ap length n.are) in
        omega (
          arith,
          fewer,
          steps_are known most first it.classes it.up it.few_classes,
          ap (steps_up known most) above_is,
          steps_are known most (next_above known k) n.rest n.up (omega (arith, fewer, it.few_classes)),
        )

  pub all_counted : {most bytes all : ℕ} (first : Option ℕ) {counted : ℕ} → IsCounted most bytes all first counted
      → ((k : ℕ) → first ≡ Some k → ⊥) → counted ≡ all
  all_counted None it none =
      let over = none_above known it.classes it.up in
      omega (arith, it.count, ap (λ (xs : List ℕ). length (ids_up s plans places xs it.values)) over)
  all_counted (Some k) it none = absurd (none k refl)
