-- The setup of a key, and the views at the opening, a split and a join.
use Rattle.std.specs.Prelude.{true, false, [], ◌∷◌, ◌++◌, Some, None}
use Rattle.mark_core.specs.Shares.{whole}
use Rattle.mark_core.specs.World.{Setup}
use Rattle.mark_core.specs.Events.{Split, Join}
use Rattle.buffer_pool.specs.Book.{Book, new_book, parted, joined, no_share_book}
use Rattle.buffer_pool.specs.WorkerLog.{first_log}
use Rattle.buffer_pool.specs.declared.key.Key.{Key}
use Rattle.buffer_pool.specs.declared.seat_view.SeatView.{SeatView}

abbrev pub setup_of : Key → Setup
setup_of k =
    record {
      objects = k.objects;
      buffers = k.buffers;
      size = k.size;
      first_tag = k.first_tag;
      roots = k.named.roots;
      pairs = k.named.pairs;
    }

abbrev pub view_with : Book → SeatView
view_with b =
    record {
      marker = record {};
      book = b;
      log = first_log;
      unsaid = [];
      taken = [];
      from = None;
      named = false;
      aside = 0;
      out = 0;
      out_link = 0;
    }

-- the first worker has the whole share, and number 0
abbrev pub first_view : Setup → SeatView
first_view e = record (view_with (new_book e whole)) { named = true }

-- what a worker keeps at a split, with the split noted; below it, what the worker gives away
abbrev pub kept_part : SeatView → SeatView
kept_part v = record v { book = parted v.aside v.book; unsaid = v.unsaid ++ Split v.aside ∷ []; aside = 0 }

abbrev pub given_part : SeatView → SeatView
given_part v = record (view_with (new_book v.book.setup v.aside)) { taken = v.log.story; from = Some v.log.number }

-- what two joined workers have. The first one's slot and log stay as they are, and the join is noted
abbrev pub joined_view : SeatView → SeatView → SeatView
joined_view v w =
    record v {
      book = joined v.book w.book;
      unsaid = v.unsaid ++ Join w.log.number ∷ [];
      taken = w.log.story;
      from = Some w.log.number;
    }

abbrev pub no_share_view : SeatView
no_share_view = view_with no_share_book
