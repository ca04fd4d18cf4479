-- The words and the lemmas of libraries that the lemmas of this crate use, in one place.
pub use Rattle.std.proofs.Common.{All, Bool, Contains, List, None, Ok, Option, Some, [], ap, append-nil, append_assoc}
pub use Rattle.std.proofs.Common.{arith, cond, count_by, drop, false, filter, flat_map, get_or, inl, inr, length}
pub use Rattle.std.proofs.Common.{length-append, map, min, not, option_copied, position, refl, rules, set, slice_get}
pub use Rattle.std.proofs.Common.{subst, suc, sum_by, sym, take, true, zero, ℕ, ⊎_elim, ◌%◌, ◌&&◌, ◌*◌, ◌++◌, ◌+◌, ◌-◌}
pub use Rattle.std.proofs.Common.{◌/◌, ◌<◌, ◌^◌, ◌∙◌, ◌∷◌, ◌≡◌, ◌≤◌, ◌⊎◌}
pub use Rattle.std.proofs.Math.ListN.{length-set}
pub use Rattle.std.proofs.Math.Nat.{lt_of_not-le, mul-le-mul_left}
pub use Rattle.std.proofs.Math.Seq.{drop-append_seam, take-length}
pub use Rattle.std.proofs.lemmas.Bool.{cases_eq, cases_lt, cases_order, cond-false, cond-true, cond_below, eq-eqb}
pub use Rattle.std.proofs.lemmas.Bool.{eqb-false, eqb-true, ltb-false, ltb-true, ne_eqb}
pub use Rattle.std.proofs.lemmas.Bool.Decides.{nat_tests}
pub use Rattle.std.proofs.lemmas.Grind.{common_steps, flat_map-append}
pub use Rattle.std.proofs.lemmas.List.{drop-append-le, drop-drop, drop-take, get_or-map, get_or-set_same, get_or_past}
pub use Rattle.std.proofs.lemmas.List.{length-drop, length-map, length-take, map-append, take-append-le, take_all}
pub use Rattle.std.proofs.lemmas.List.Elements.{All-cons, All-get_or, Contains-append_left, Contains-append_right}
pub use Rattle.std.proofs.lemmas.List.Elements.{Contains-push, Contains-push_cases, filter_map-append}
pub use Rattle.std.proofs.lemmas.List.Filters.{length-filter_both}
pub use Rattle.std.proofs.lemmas.List.Folds.{length-prefix_len, list_any_none}
pub use Rattle.std.proofs.lemmas.List.Quantifiers.{position-Some}
pub use Rattle.std.proofs.lemmas.List.Sums.{count_by-le-length, fails_before_first, get_or-le-sum_by, length-filter}
pub use Rattle.std.proofs.lemmas.List.Sums.{passes_at_first, sum_by-append, sum_by-cons, sum_by-set}
pub use Rattle.std.proofs.lemmas.Option.{cond_some, get_or_from_slice_get, none-some, same_Some, slice_get-get_or}
pub use Rattle.std.proofs.lemmas.Option.{slice_get-map, slice_get_read, slice_get_within}
pub use Rattle.std.proofs.lemmas.Result.{IfOk-weaker}
pub use Rattle.std.specs.List.{AllByRecursion, concat, cons_option, list_any, position_or_len, range_with_len}
pub use Rattle.std.specs.Option.{option_map}
pub use Rattle.std.specs.Prelude.{IfSome, filter_map, if◌then◌else◌, is_some, nat_lt, option_and_then, slice_index}
pub use Rattle.std.specs.Prelude.{slice_index_or, slice_range, ◌==◌}
pub use Rattle.byteorder.specs.Endian.{big_bytes, big_number}
pub use Rattle.byteorder.specs.Numbers.{big_from-take, length-bytes_high_first}
pub use Rattle.hprof_grammar.proofs.FormedPartsLaws.{bounds}
pub use Rattle.hprof_grammar.specs.FormedParts.{IsStatic}
pub use Rattle.hprof_grammar.specs.Dump.{Spells, header, heap_list, is_object, is_root, limit, places_where, spellings}
pub use Rattle.hprof_grammar.specs.TagsAndTypes.{size_of}
pub use Rattle.hprof_grammar.specs.ObjectKinds.{object_kind}
pub use Rattle.hprof_grammar.specs.Places.{IsDumpOf, Places, is_load, is_string, places_of}
pub use Rattle.hprof_grammar.specs.Record.{Record, body_of, record_spelling, subs_of, tag_of, time_of}
pub use Rattle.hprof_grammar.specs.Snapshot.{IsOrderly}
pub use Rattle.hprof_grammar.specs.Record.Record.{heap, load_class, other, string}
pub use Rattle.hprof_grammar.specs.Series.{LabelledValue, of_static}
pub use Rattle.hprof_grammar.specs.Spelling.{AreAllowed, Field, IsAllowed, spelled}
pub use Rattle.hprof_grammar.specs.Spelling.Field.{number, raw, type_code}
pub use Rattle.hprof_grammar.specs.Standing.{IsPlaced, RecordStands, RecordStandsAt, Sight, StandInTurn, Stands}
pub use Rattle.hprof_grammar.specs.Standing.{SubRecordStandsAt}
pub use Rattle.hprof_grammar.specs.SubRecord.{Class, Instance, IsSubRecord, Member, ObjectArray, Static, SubRecord}
pub use Rattle.hprof_grammar.specs.SubRecord.{class_fields, constant_fields, member_fields, spelling_of, static_fields}
pub use Rattle.hprof_grammar.specs.SubRecord.SubRecord.{class_dump, instance_dump, object_array_dump}
pub use Rattle.hprof_grammar.specs.SubRecord.SubRecord.{primitive_array_dump, root}
pub use Rattle.hprof_grammar.specs.declared.kinds.TypePlace.TheVariants.{InArray, InMember, InStatic}
pub use Rattle.hprof_grammar.specs.declared.kinds.ObjectKind.{ObjectKind}
pub use Rattle.id_index.specs.Repeats.{IsFirstRepeat}
pub use Rattle.heap_graph.specs.Accepted.{IsAccepted}
pub use Rattle.heap_graph.specs.ClassNames.{class_text, name_of, string_named}
pub use Rattle.heap_graph.specs.Fields.{declared_fields, field_ids, own_fields}
pub use Rattle.heap_graph.specs.Heap.{as_class, class_dumps, class_named, class_number, heap_of, id_of, number_named}
pub use Rattle.heap_graph.specs.Heap.{object_named, objects}
pub use Rattle.heap_graph.specs.Layout.{IsChain, IsLine, NeverEnds, layout, layout_size}
pub use Rattle.heap_graph.specs.LinkFault.{HasLinkFault, IsFirstFault, IsLeastFault, code_of}
pub use Rattle.heap_graph.specs.LinkRules.{Breaks, Fails, HasBadChain, HasWrongSize, IsLinked, LacksClass, most_objects}
pub use Rattle.heap_graph.specs.MetEntries.{is_met}
pub use Rattle.heap_graph.specs.ObjectGraph.{IsGraphOf, IsGraphOfText, ObjectGraph, bytes_at, class_count}
pub use Rattle.heap_graph.specs.ObjectGraph.{named_classes, named_in, object_count, references_of, row_at}
pub use Rattle.heap_graph.specs.ObjectGraph.{unresolved_in}
pub use Rattle.heap_graph.specs.References.{AreIdLists, AreIdsIn, is_unresolved, target_of, targets}
pub use Rattle.heap_graph.specs.Roots.{root_ids, root_objects}
pub use Rattle.heap_graph.specs.Rows.{bytes_of, row_of}
pub use Rattle.heap_graph.specs.Skips.{SkipEntry, is_skipped}
pub use Rattle.heap_graph.specs.SuperRule.{IsBadSuper}
pub use Rattle.heap_graph.specs.Walks.{is_unresolved_in, references_in, unresolved_left}
pub use Rattle.heap_graph.specs.Whole.{IsRowIn, IsWhole, id_list_of, unresolved_among, unresolved_roots}
pub use Rattle.heap_graph.specs.declared.objects.class_entries.ClassEntry.{ClassEntry}
pub use Rattle.heap_graph.specs.declared.classes.ClassPlace.{ClassPlace}
pub use Rattle.heap_graph.specs.declared.classes.chains.Step.{Step}
pub use Rattle.heap_graph.specs.declared.classes.fate.Fate.{Fate}
pub use Rattle.heap_graph.specs.declared.classes.fate.Layout.{Layout}
pub use Rattle.heap_graph.specs.declared.plan.ClassPlan.{ClassPlan}
pub use Rattle.heap_graph.specs.declared.plan.Plan.{Plan}
pub use Rattle.heap_graph.specs.declared.objects.Objects.{Objects}
pub use Rattle.heap_graph.specs.declared.objects.indexing.Indexed.{Indexed}
pub use Rattle.heap_graph.specs.declared.refusal.LinkFault.{LinkFault}
pub use Rattle.heap_graph.specs.declared.row.RowKey.{RowKey}
pub use Rattle.heap_graph.specs.declared.refusal.LinkRule.{LinkRule}
pub use Rattle.heap_graph.specs.declared.refusal.LinkRule.TheVariants.{DuplicateObject, InstanceSize, SuperChain}
pub use Rattle.heap_graph.specs.declared.refusal.LinkRule.TheVariants.{TooLarge, UnknownClass, ZeroObject}
pub use Rattle.heap_graph.specs.working.Chains.{AreFates, AreFatesOf, BeginsAt, DoesStay, IsChainAt, IsClimb, IsClimbOf}
pub use Rattle.heap_graph.specs.working.Chains.{IsCut, IsFate, IsFirst, IsKnown, IsPath, IsSettled, IsStep, IsTop}
pub use Rattle.heap_graph.specs.working.Chains.{IsUnder, is_unknown, most_size, tail}
pub use Rattle.heap_graph.specs.working.ClassFates.{HaveFates, HaveFatesOf}
pub use Rattle.heap_graph.specs.working.ClassNumbers.{AreClassNumbers, AreIndexed, IsClassNumber}
pub use Rattle.heap_graph.specs.working.ClassPlans.{AddsPlan, AreClassObjects, AreClassPlans, HasIdPlaces, HasPlan}
pub use Rattle.heap_graph.specs.working.ClassPlans.{IsClassPlan, IsPlan, IsPlanOf, id_places_of, object_of_row, plan_at}
pub use Rattle.heap_graph.specs.working.ClassSkips.{is_skipped_in, names_class, names_field}
pub use Rattle.heap_graph.specs.working.ClassTable.{AreClasses, AreClassesAmong, AreClassesOf, TableEntry, entry_at}
pub use Rattle.heap_graph.specs.working.ClassTable.{ids_of}
pub use Rattle.heap_graph.specs.working.DescribedClasses.{declares_described, described}
pub use Rattle.heap_graph.specs.working.FieldsUp.{AreUp, HasFields, HaveFields, StandInside, Up, Up-prop, ids_up}
pub use Rattle.heap_graph.specs.working.FieldsUp.{next_above, next_in}
pub use Rattle.heap_graph.specs.working.GatheredParts.{HasGathered}
pub use Rattle.heap_graph.specs.working.GraphOf.{GraphOf, GraphOf-prop}
pub use Rattle.heap_graph.specs.working.GraphParts.{AreNamedOf, AreRootsOf}
pub use Rattle.heap_graph.specs.working.ObjectIds.{AreIdsOf, AreLinked, AreLinkedOf, IsObjectAt, with_class}
pub use Rattle.heap_graph.specs.working.IdPlaces.{id_places, ids_at, size_of_fields, size_together}
pub use Rattle.heap_graph.specs.working.OneGraph.{one_ids}
pub use Rattle.heap_graph.specs.working.PlacedNames.{AreNames, AreNamesByIdOf, AreNamesOf, loaded_id, string_id}
pub use Rattle.heap_graph.specs.working.PlacedObjects.{AreObjects, AreOf, ArePlacesOf, IsReadFrom}
pub use Rattle.heap_graph.specs.working.ReadObjects.{IsReadOf}
pub use Rattle.heap_graph.specs.working.Refinement.{StandFor}
pub use Rattle.heap_graph.specs.working.Resolving.{IsNamed, Resolves, known_ids, target_in}
pub use Rattle.heap_graph.specs.working.RuleAnswers.{AreFine, BreaksOfKind, IsFaultOf, IsLeastRule, IsRuleOfKind}
pub use Rattle.heap_graph.specs.working.Values.{values_ids}
