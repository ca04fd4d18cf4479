-- What a report shows: its lines as entries, and the whole as a histogram.
use Rattle.std.specs.Prelude.{map}
use Rattle.histogram.specs.Histogram.{Entry, Histogram}
use Rattle.histogram.specs.declared.report.Line.{Line}
use Rattle.histogram.specs.declared.report.Report.{Report}

abbrev pub entry_of : {A : Type 0} → Line A → Entry
entry_of l = record { name = l.name.items; class = l.class; count = l.count; bytes = l.bytes }

abbrev pub histogram_of : {A : Type 0} → Report A → Histogram
histogram_of r =
    record {
      rows = map entry_of r.rows.items;
      reachable = r.reachable;
      unreachable = r.unreachable;
      unresolved = r.unresolved;
    }
