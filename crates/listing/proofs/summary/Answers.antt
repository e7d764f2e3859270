-- `listing::summary` meets its contract, count by count. Assumes nothing.
use Rattle.std.proofs.Common.{[], ap}
use Rattle.listing.specs.Ascii.{ascii}
use Rattle.listing.specs.Text.{line_feed, counted, summary_text}
use Rattle.listing.proofs.Lines.{line_on, line_on_byte}
use Rattle.listing.proofs.summary.Goals as goal

pub returns : goal.returns
unfolding ascii summary_text
returns c =
    line_on_byte _ line_feed
    (line_on _ _
    (line_on _ _
    (line_on [] _ c.empty.ensures c.count.ensures
    (ap (counted "areas ") c.area_count.ensures))
    c.count-2.ensures (ap (counted " items ") c.item_count.ensures))
    c.count-3.ensures (ap (counted " bank ") c.bank_words.ensures))
    c.byte.ensures
