-- Each object has a mark.
use Rattle.buffer_pool.proofs.Words.{slots_items, sym}
use Rattle.buffer_pool.proofs.Closes.{marks_count}
use Rattle.buffer_pool.proofs.pool.closed_marks.Marks.len.Goals as goal

pub returns : goal.returns
returns g c =
    let m = c.self.inside in
    sym (marks_count (slots_items m.closed.words) m.first_mark m.objects c.args.self.now c.self.view_is)
