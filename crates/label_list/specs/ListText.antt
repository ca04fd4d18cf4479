-- The text of a list of labels, by its bytes: lines, each of which is an entry.
use Rattle.std.specs.Prelude.{List, [], codes, length, ℕ, ◌*◌, ◌+◌, ◌++◌, ◌-◌, ◌<◌, ◌∷◌, ◌^◌, ◌≡◌, ◌≢◌, ◌≤◌}
use Rattle.std.specs.List.{AllByRecursion}
use Rattle.label_list.specs.declared.entry.Entry.{Entry}
use Rattle.label_list.specs.declared.entry.Entry.TheVariants as entries
use Rattle.label_list.specs.declared.entry.Place.{Place}
use Rattle.label_list.specs.declared.entry.Place.TheVariants as places

abbrev pub blank : ℕ
blank = 32

abbrev pub newline : ℕ
newline = 10

abbrev pub IsDigit : ℕ → Type 0
IsDigit b = (48 ≤ b) × (b ≤ 57)

-- the number that `digits` spell after those of `n`
abbrev pub value_after : ℕ → List ℕ → ℕ
value_after n [] = n
value_after n (d ∷ ds) = value_after (10 * n + (d - 48)) ds

-- `digits` are 1 to 20 digits that spell `n`, which is less than `limit`.
pub record SpellsNumber (limit : ℕ) (digits : List ℕ) (n : ℕ) : Type 0 where
  pub some : 1 ≤ length digits
  pub few : length digits ≤ 20
  pub each : AllByRecursion IsDigit digits
  pub value_is : value_after 0 digits ≡ n
  pub below : n < limit

-- Identifiers, the numbers of identifiers and of roots, and labels are less than these.
abbrev pub id_limit : ℕ
id_limit = 2 ^ 64

abbrev pub index_limit : ℕ
index_limit = 2 ^ 32

abbrev pub label_limit : ℕ
label_limit = 2 ^ 20

-- an identifier, a blank, and the number of an identifier that an object holds
abbrev pub SpellsPair : List ℕ → ℕ → ℕ → Type 0
SpellsPair text id index = (a : List ℕ) × (b : List ℕ) × SpellsNumber id_limit a id × SpellsNumber index_limit b index
    × (text ≡ a ++ blank ∷ b)

abbrev pub SpellsPlace : List ℕ → Place → Type 0
SpellsPlace text (places.Class id index) = (a : List ℕ) × SpellsPair a id index × (text ≡ codes "class " ++ a)
SpellsPlace text (places.Object id index) = (a : List ℕ) × SpellsPair a id index × (text ≡ codes "object " ++ a)
SpellsPlace text (places.Root index) = (a : List ℕ) × SpellsNumber index_limit a index × (text ≡ codes "root " ++ a)

-- a line without its newline
abbrev pub SpellsEntry : List ℕ → Entry → Type 0
SpellsEntry text (entries.Label label place) = (a : List ℕ) × (b : List ℕ) × SpellsNumber label_limit a label
    × SpellsPlace b place × (text ≡ codes "label " ++ (a ++ blank ∷ b))
SpellsEntry text (entries.Cut place) = (a : List ℕ) × SpellsPlace a place × (text ≡ codes "cut " ++ a)
SpellsEntry text (entries.Root id) = (a : List ℕ) × SpellsNumber id_limit a id × (text ≡ codes "root " ++ a)

-- lines, each ended by a newline: one for each entry, in order
abbrev pub SpellsList : List ℕ → List Entry → Type 0
SpellsList text [] = text ≡ []
SpellsList text (e ∷ es) = (line : List ℕ) × (rest : List ℕ) × SpellsEntry line e × SpellsList rest es
    × (text ≡ line ++ newline ∷ rest)

-- Line `n` of the text, counted from 1, is the first that spells no entry: the n - 1 lines before it spell `entries`,
-- and `rest`, the text after these, is not empty and begins with no line that spells an entry.
pub record IsFirstBadLine (text : List ℕ) (n : ℕ) : Type 0 where
  pub before : List ℕ
  pub rest : List ℕ
  pub entries : List Entry
  pub whole : text ≡ before ++ rest
  pub good : SpellsList before entries
  pub number_is : n ≡ length entries + 1
  pub some : rest ≢ []
  pub bad : (line : List ℕ) (entry : Entry) (more : List ℕ) → SpellsEntry line entry → rest ≢ line ++ newline ∷ more
