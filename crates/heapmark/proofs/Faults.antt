-- The first fault of the links of a text with one known list of records.
use Rattle.std.proofs.Common.{List, Some, inl, inr, le_antisymm, map, refl, slice_get, sym, ℕ, ⊎_elim, ◌<◌, ◌≡◌, ◌∙◌}
use Rattle.std.proofs.Common.{◌⊎◌}
use Rattle.std.proofs.lemmas.Bool.{cases_order}
use Rattle.heap_graph.specs.Heap.{heap_of}
use Rattle.heap_graph.specs.LinkFault.{HasLinkFault, IsFirstFault, code_of}
use Rattle.heap_graph.specs.Accepted.{IsAccepted}
use Rattle.heap_graph.specs.LinkRules.{Fails}
use Rattle.heap_graph.specs.declared.refusal.LinkRule.{LinkRule}
use Rattle.heapmark.specs.Answer.{FirstFaultOf, IsAcceptedText}
use Rattle.hprof_grammar.specs.Dump.{Spells, heap_list, is_object, places_where}
use Rattle.hprof_grammar.specs.Places.{IsDumpOf, Places, places_of}
use Rattle.hprof_grammar.specs.Laws.{HasFirstFault, SpellsDump}
use Rattle.hprof_grammar.specs.Fault.{FirstFault}
use Rattle.hprof_grammar.specs.Record.{Record, tag_of}
use Rattle.hprof_grammar.specs.Snapshot.{IsOrderly}
use Rattle.hprof_grammar.specs.SubRecord.{SubRecord}

abbrev pub NoFault : Type 0
NoFault = (text : List ℕ) (dump : Places) (code place : ℕ) → IsDumpOf text dump → FirstFault text code place → ⊥

abbrev pub OneList : Type 0
OneList = (text : List ℕ) (id_size other_size : ℕ) (records others : List Record) → Spells text id_size records
    → Spells text other_size others → (id_size ≡ other_size) × (records ≡ others)

abbrev pub OneFormFault : Type 0
OneFormFault = (text : List ℕ) (code place other_code other_place : ℕ) → FirstFault text code place
    → FirstFault text other_code other_place → (code ≡ other_code) × (place ≡ other_place)

-- an orderly list of records is a dump
dump_of : (text : List ℕ) (id_size : ℕ) (records : List Record) → Spells text id_size records
    → IsOrderly (map tag_of records) → IsDumpOf text (places_of id_size records)
dump_of text id_size records spells orderly =
    record { records = records; spells = spells; orderly = orderly; places = refl }

-- a text with a fault of its links has no fault of its form
no_form_fault : NoFault → (text : List ℕ) (code place other_code other_place : ℕ) → HasLinkFault text code place
    → FirstFault text other_code other_place → ⊥
no_form_fault none text code place other_code other_place link form =
    none text (places_of link.id_size link.records) other_code other_place
    (dump_of text link.id_size link.records link.spells link.orderly) form

-- a heap list has at most one first object that breaks a rule; with `one_code`, that object has one least rule
one_number : (s : ℕ) (heap : List SubRecord) (n m : ℕ) (rule other : LinkRule) → IsFirstFault s heap n rule
    → IsFirstFault s heap m other → n ≡ m
one_number s heap n m rule other one two = ⊎_elim
    (λ (same : n ≡ m). same)
    (⊎_elim (λ (before : n < m). absurd (two.first n rule before one.here.fails))
    (λ (behind : m < n). absurd (one.first m other behind two.here.fails)))
    (cases_order n m)

one_code : (s : ℕ) (heap : List SubRecord) (n : ℕ) (rule other : LinkRule) → IsFirstFault s heap n rule
    → IsFirstFault s heap n other → code_of rule ≡ code_of other
one_code s heap n rule other one two =
    le_antisymm (one.here.least other two.here.fails) (two.here.least rule one.here.fails)

-- the links of a text have at most one first fault
one_link_fault : OneList → (text : List ℕ) (code place other_code other_place : ℕ) → HasLinkFault text code place
    → HasLinkFault text other_code other_place → (code ≡ other_code) × (place ≡ other_place)
one_link_fault one text code place other_code other_place h k =
    let lists = one text h.id_size k.id_size h.records k.records h.spells k.spells in
    let first : IsFirstFault h.id_size (heap_of h.records) k.number k.rule = rw (lists.0, lists.1) k.first in
    let number = one_number h.id_size (heap_of h.records) h.number k.number h.rule k.rule h.first first in
    let here : IsFirstFault h.id_size (heap_of h.records) h.number k.rule = rw number first in
    let codes = one_code h.id_size (heap_of h.records) h.number h.rule k.rule h.first here in
    let place_too : slice_get (places_where is_object (heap_list h.id_size h.records)) h.number ≡ Some other_place =
    rw (lists.0, lists.1, number) k.place_is in
    let places : place ≡ other_place = cc (h.place_is, place_too) in
    (h.code_is ∙ codes ∙ sym k.code_is, places)

pub fault_determined : NoFault → OneFormFault → OneList → (text : List ℕ) (code place other_code other_place : ℕ)
    → FirstFaultOf text code place → FirstFaultOf text other_code other_place → (code ≡ other_code)
    × (place ≡ other_place)
fault_determined none form one text code place other_code other_place (inl h) (inl k) =
    form text code place other_code other_place h k
fault_determined none form one text code place other_code other_place (inl h) (inr k) =
    absurd (no_form_fault none text other_code other_place code place k h)
fault_determined none form one text code place other_code other_place (inr h) (inl k) =
    absurd (no_form_fault none text code place other_code other_place h k)
fault_determined none form one text code place other_code other_place (inr h) (inr k) =
    one_link_fault one text code place other_code other_place h k

-- an accepted text has no fault of its links
no_link_fault : OneList → (text : List ℕ) (id_size : ℕ) (records : List Record) (code place : ℕ)
    → IsAccepted text id_size records → HasLinkFault text code place → ⊥
no_link_fault one text id_size records code place accepted link =
    let lists = one text id_size link.id_size records link.records accepted.spells link.spells in
    let fails : Fails id_size (heap_of records) link.number link.rule = rw (lists.0, lists.1) link.first.here.fails in
    accepted.linked link.number link.rule fails

pub accepted_excludes : NoFault → OneList → (text : List ℕ) (code place : ℕ) → IsAcceptedText text
    → FirstFaultOf text code place → ⊥
accepted_excludes none one text code place accepted (inl form) =
    none text (places_of accepted.0 accepted.1) code place
    (dump_of text accepted.0 accepted.1 accepted.2.spells accepted.2.orderly) form
accepted_excludes none one text code place accepted (inr link) =
    no_link_fault one text accepted.0 accepted.1 code place accepted.2 link

abbrev HasFault : List ℕ → Type 0
HasFault text = (code : ℕ) × (place : ℕ) × FirstFaultOf text code place

abbrev pub SomeLinks : Type 0
SomeLinks = (text : List ℕ) (id_size : ℕ) (records : List Record) → Spells text id_size records
    → IsOrderly (map tag_of records)
    → IsAccepted text id_size records ⊎ ((code : ℕ) × (place : ℕ) × HasLinkFault text code place)

by_links : (text : List ℕ) (id_size : ℕ) (records : List Record) → IsAccepted text id_size records
    ⊎ ((code : ℕ) × (place : ℕ) × HasLinkFault text code place)
    → IsAcceptedText text ⊎ HasFault text
by_links text id_size records (inl accepted) = inl (id_size, records, accepted)
by_links text id_size records (inr fault) = inr (fault.0, fault.1, inr fault.2)

-- a text that spells a dump is accepted or has a fault of its links
pub by_form : SomeLinks → (text : List ℕ) → SpellsDump text ⊎ HasFirstFault text → IsAcceptedText text ⊎ HasFault text
by_form links text (inl dump) =
    by_links text dump.0.id_size dump.1.records (links text dump.0.id_size dump.1.records dump.1.spells dump.1.orderly)
by_form links text (inr fault) = inr (fault.0, fault.1, inl fault.2)
