-- A test that fails is the first fault, since the tests before it passed. If all four pass, the text has a header.
use Rattle.hprof_grammar.proofs.Words.{ap, arith, bad_header, big_number, drop, short_header, sym, too_large, true, ◌∙◌}
use Rattle.hprof_grammar.proofs.Words.{◌≡◌, ◌≤◌}
use Rattle.std.proofs.lemmas.List.{take_rest}
use Rattle.hprof_grammar.proofs.Bytes.{IsBytes, in_bytes}
use Rattle.hprof_grammar.proofs.Headers.{begins_with_magic, header_stands, id_size_wrong, magic_is_found}
use Rattle.hprof_grammar.proofs.TableLaws.{id_size_high}
use Rattle.hprof_grammar.proofs.parse.header_id_size.Goals as goal

pub returns-then-bytes-clause-fault : goal.returns-then-bytes-clause-fault
returns-then-bytes-clause-fault c = rw c.fault.ensures (too_large c.if-bytes.true)

pub returns-then-not-starts_with-clause-fault : goal.returns-then-not-starts_with-clause-fault
returns-then-not-starts_with-clause-fault c = rw c.fault-then-not-starts_with.ensures (bad_header c.if-bytes.false
    (λ h. let found : c.starts_with.result
    ≡ true = magic_is_found c.args.bytes.now c.starts_with.result c.starts_with.ensures.value h in cc))

pub returns-then-bytes-2-clause-fault : goal.returns-then-bytes-2-clause-fault
returns-then-bytes-2-clause-fault c = rw c.fault-then-bytes-2.ensures
    (short_header (
      drop 19 c.args.bytes.now,
      begins_with_magic c.args.bytes.now c.starts_with.result
          c.starts_with.ensures.value c.if-not-starts_with.false,
    ) c.if-bytes-2.true)

pub returns-then-not-is_id_size-clause-fault : goal.returns-then-not-is_id_size-clause-fault
returns-then-not-is_id_size-clause-fault c =
    let bytes : IsBytes c.args.bytes.now = in_bytes c.args.bytes.now c.type_inv.bytes in
    let size : c.read_u32-size.result ≡ big_number 4 (drop 19 c.args.bytes.now) =
    c.read_u32-size.ensures ∙ ap (big_number 4) (take_rest c.args.bytes.now 19) in
    rw c.fault-then-not-is_id_size.ensures
    (id_size_wrong c.read_u32-size.result c.args.bytes.now bytes c.if-bytes.false c.if-bytes-2.false
    (begins_with_magic c.args.bytes.now c.starts_with.result c.starts_with.ensures.value c.if-not-starts_with.false)
    size (sym c.is_id_size.ensures ∙ c.if-not-is_id_size.true))

pub overflow_cast-result : goal.overflow_cast-result
overflow_cast-result c =
    let high : c.read_u32-size.result ≤ 8 =
    id_size_high c.read_u32-size.result (sym c.is_id_size.ensures ∙ c.if-not-is_id_size.false) in
    omega arith

pub returns-clause-ok : goal.returns-clause-ok
returns-clause-ok c =
    let bytes : IsBytes c.args.bytes.now = in_bytes c.args.bytes.now c.type_inv.bytes in
    let size : c.read_u32-size.result ≡ big_number 4 (drop 19 c.args.bytes.now) =
    c.read_u32-size.ensures ∙ ap (big_number 4) (take_rest c.args.bytes.now 19) in
    header_stands c.read_u32-size.result c.args.bytes.now bytes c.if-bytes.false c.if-bytes-2.false
    (begins_with_magic c.args.bytes.now c.starts_with.result c.starts_with.ensures.value c.if-not-starts_with.false)
    size (sym c.is_id_size.ensures ∙ c.if-not-is_id_size.false)
