-- The definitions and the lemmas of other modules and crates that the lemmas of this crate use, in one place.
pub use Rattle.std.proofs.Common.{Bool, Err, List, None, Ok, Option, Result, Some, [], add-one, ap, append-nil}
pub use Rattle.std.proofs.Common.{append_assoc, arith, cond, drop, false, filter, flat_map, if◌then◌else◌, inl, inr}
pub use Rattle.std.proofs.Common.{length, length-append, map, nat_lt, not, refl, replicate, slice_get, slice_index}
pub use Rattle.std.proofs.Common.{subst, suc, sym, take, true, w8, zero, ℕ, ◌&&◌, ◌*◌, ◌++◌, ◌+◌, ◌-◌, ◌/◌, ◌<◌, ◌^◌}
pub use Rattle.std.proofs.Common.{◌∙◌, ◌∷◌, ◌≡◌, ◌≢◌, ◌≤◌, ◌⊎◌}
pub use Rattle.std.proofs.Math.Arith.{digits_div}
pub use Rattle.std.proofs.Math.Dec.{eqb}
pub use Rattle.std.proofs.Math.ListN.{drop_of_length-le}
pub use Rattle.std.proofs.Math.Nat.{one-le-pow}
pub use Rattle.std.proofs.Math.Seq.{drop-append_seam, take-append_seam}
pub use Rattle.std.proofs.lemmas.Bool.{cases_eq, cases_lt, eqb-true, le-ltb, lt-ltb, ltb-false, ltb-true}
pub use Rattle.std.proofs.lemmas.Bool.Decides.{Decides-eqb, nat_tests}
pub use Rattle.std.proofs.lemmas.Grind.{flat_map-append}
pub use Rattle.std.proofs.lemmas.List.{drop-drop, get_or-append-add, get_or-drop, length-drop, length-replicate}
pub use Rattle.std.proofs.lemmas.List.{length-take-le, map-append, replicate_more, take-append-drop, take_all}
pub use Rattle.std.proofs.lemmas.List.Concat.{flat_map_single}
pub use Rattle.std.proofs.lemmas.List.Elements.{filter-append}
pub use Rattle.std.proofs.lemmas.Slice.Eq.{starts_is}
pub use Rattle.std.specs.Int.{byte_at}
pub use Rattle.std.specs.List.{AllByRecursion, starts_with}
pub use Rattle.std.specs.Option.{option_and_then}
pub use Rattle.std.specs.Prelude.{nat_eq, nat_le, ◌==◌, ◌||◌}
pub use Rattle.byteorder.specs.Endian.{big_bytes, big_number}
pub use Rattle.byteorder.specs.Numbers.{big_from-cons, big_from-lt, big_from-take, big_number-reads_back}
pub use Rattle.byteorder.specs.Numbers.{length-bytes_high_first}
pub use Rattle.hprof_grammar.specs.FormedParts.{HasBounds, IsClass, IsConstant, IsInstance, IsMember, IsObjectArray}
pub use Rattle.hprof_grammar.specs.FormedParts.{IsOrigin, IsPrimitiveArray, IsRoot, IsStatic}
pub use Rattle.hprof_grammar.specs.Dump.{Spells, header, heap_list, id_of, is_object, is_root, limit, magic, placed}
pub use Rattle.hprof_grammar.specs.Dump.{placed_subs, places_where, spellings}
pub use Rattle.hprof_grammar.specs.Fault.{FirstFault, HasMagic, LongestRecords, LongestSubs, RecordFault, RunsPastEnd}
pub use Rattle.hprof_grammar.specs.Fault.{SubFault}
pub use Rattle.hprof_grammar.specs.Fault.FirstFault.{bad_header, bad_id_size, in_records, short_header, too_large}
pub use Rattle.hprof_grammar.specs.Fault.RecordFault.{bad_length, in_heap, no_snapshot, out_of_order, truncated}
pub use Rattle.hprof_grammar.specs.Fault.SubFault.{short, unknown_tag, wrong_type}
pub use Rattle.hprof_grammar.specs.TagsAndTypes.{is_id_size}
pub use Rattle.hprof_grammar.specs.Record.{is_heap_tag, is_length_of}
pub use Rattle.hprof_grammar.specs.TagsAndTypes.{is_sub_tag, is_type_at, size_of}
pub use Rattle.hprof_grammar.specs.Kinds.{kind_of, origin_kind, root_of, root_tag, sub_kind}
pub use Rattle.hprof_grammar.specs.Laws.{AreBytes, HasFirstFault, SpellsDump}
pub use Rattle.hprof_grammar.specs.Places.{IsDumpOf, Places, is_load, is_string, places_of}
pub use Rattle.hprof_grammar.specs.Record.{HasParts, IsOther, IsRecord, Record, body_of, framed, record_spelling}
pub use Rattle.hprof_grammar.specs.Record.{subs_of, tag_of, time_of}
pub use Rattle.hprof_grammar.specs.Snapshot.{CanGoOn, IsOrderly, IsSnapshot, is_snapshot_tag, snapshot_tags}
pub use Rattle.hprof_grammar.specs.Record.Record.{heap, load_class, other, string}
pub use Rattle.hprof_grammar.specs.Refusal.{IfFault}
pub use Rattle.hprof_grammar.specs.RootFields.{RootSays, frame_of, reference_of, thread_of, trace_of}
pub use Rattle.hprof_grammar.specs.Series.{HasCountedValues, HasValues, LabelledValue, behind_counted_values}
pub use Rattle.hprof_grammar.specs.Series.{behind_values, count_in, counted_values_in, members_in, numbers_in}
pub use Rattle.hprof_grammar.specs.Series.{of_constant, of_static, value_end, values_in}
pub use Rattle.hprof_grammar.specs.Spelling.{AreAllowed, EndsShort, Field, Fits, HasWrongType, IsAllowed}
pub use Rattle.hprof_grammar.specs.Spelling.{field_spelling, spelled}
pub use Rattle.hprof_grammar.specs.Spelling.Field.{number, raw, type_code}
pub use Rattle.hprof_grammar.specs.Standing.{HeaderStands, IsPlaced, LoadStands, RecordStands, RecordStandsAt, Sight}
pub use Rattle.hprof_grammar.specs.Standing.{StandInTurn, Stands, StringStands, SubRecordStandsAt, stack_of}
pub use Rattle.hprof_grammar.specs.SubRecord.{Class, Constant, HasSizes, Instance, IsFormed, IsSubRecord, Member}
pub use Rattle.hprof_grammar.specs.SubRecord.{ObjectArray, PrimitiveArray, Root, RootOrigin, Static, SubRecord}
pub use Rattle.hprof_grammar.specs.SubRecord.{class_fields, constant_fields, fields_of, instance_fields, member_fields}
pub use Rattle.hprof_grammar.specs.SubRecord.{object_array_fields, origin_fields, origin_tag, primitive_array_fields}
pub use Rattle.hprof_grammar.specs.SubRecord.{root_fields, spelling_of, static_fields}
pub use Rattle.hprof_grammar.specs.SubRecord.RootOrigin.{java_frame, jni_global, jni_local, monitor_used, native_stack}
pub use Rattle.hprof_grammar.specs.SubRecord.RootOrigin.{sticky_class, thread_block, thread_object, unknown}
pub use Rattle.hprof_grammar.specs.SubRecord.SubRecord.{class_dump, instance_dump, object_array_dump}
pub use Rattle.hprof_grammar.specs.SubRecord.SubRecord.{primitive_array_dump, root}
pub use Rattle.hprof_grammar.specs.contracts.snapshot_order.SnapshotState.{the_type}
pub use Rattle.hprof_grammar.specs.declared.cuts.Seam.{Seam}
pub use Rattle.hprof_grammar.specs.declared.flaw.Flaw.{Flaw}
pub use Rattle.hprof_grammar.specs.declared.flaw.Flaw.TheVariants.{Short, UnknownTag, WrongType}
pub use Rattle.hprof_grammar.specs.declared.flaw.FormatFault.{FormatFault}
pub use Rattle.hprof_grammar.specs.declared.flaw.ReadRefusal.{ReadRefusal}
pub use Rattle.hprof_grammar.specs.declared.flaw.ReadRefusal.TheVariants.{Fault, OutOfMemory}
pub use Rattle.hprof_grammar.specs.declared.kinds.Kind.{Kind}
pub use Rattle.hprof_grammar.specs.declared.kinds.RootKind.{RootKind}
pub use Rattle.hprof_grammar.specs.declared.kinds.TypePlace.{TypePlace}
pub use Rattle.hprof_grammar.specs.declared.kinds.TypePlace.TheVariants.{InArray, InConstant, InMember, InStatic}
pub use Rattle.hprof_grammar.specs.declared.parts.Part.{Part}
pub use Rattle.hprof_grammar.specs.declared.snapshot_order.SnapshotState.{SnapshotState}
pub use Rattle.hprof_grammar.specs.declared.snapshot_order.SnapshotState.TheVariants.{Before, Ended, Segments, Whole}
pub use Rattle.hprof_grammar.specs.working.ClassParts.{IsPartOf, counted_fields, fields_from_constants}
pub use Rattle.hprof_grammar.specs.working.ClassParts.{fields_from_members, fields_from_statics, ids_behind_stack}
pub use Rattle.hprof_grammar.specs.working.Joining.{AddsAll, AddsRecord, AddsRecords, AddsRecordsFrom, AddsSubs}
pub use Rattle.hprof_grammar.specs.working.Joining.{FrameFault, HasHeader, HasRecordFault, HasSubFault, noted}
pub use Rattle.hprof_grammar.specs.working.Joining.{nothing_of, with_loaded, with_places, with_record, with_records}
pub use Rattle.hprof_grammar.specs.working.Joining.{with_string, with_subs}
pub use Rattle.hprof_grammar.specs.working.Joining.FrameFault.{wrong_heap, wrong_length, wrong_order}
pub use Rattle.hprof_grammar.specs.working.Parts.{IsReadPart}
pub use Rattle.hprof_grammar.specs.working.Reading.{as_at, behind, block_at, body_at, class_dump_at, constant_at}
pub use Rattle.hprof_grammar.specs.working.Reading.{counted_at, flaw_code, frame_at, instance_at, list_at, lone_root}
pub use Rattle.hprof_grammar.specs.working.Reading.{member_at, number_at, numbers_at, object_array_at}
pub use Rattle.hprof_grammar.specs.working.Reading.{primitive_array_at, raw_at, root_at, root_with, root_with_two}
pub use Rattle.hprof_grammar.specs.working.Reading.{static_at, sub_record_at, then_at, type_at, ◌>>=◌}
pub use Rattle.hprof_grammar.specs.working.SnapshotOrder.{IsAt, StepsTo, is_done}
pub use denote.Enum.Bare.{same_true, sameb}
