-- The cover is under way, and what the rules ask from here on is what they ask of the whole sheet. Assumes nothing.
use Rattle.std.proofs.Common.{◌-◌, ◌≡◌, ◌≤◌, ◌&&◌}
use Rattle.sheet_rules.specs.Rules.{items_sound, settings_sound}
use Rattle.sheet.specs.Cover.{places_left, UnderWay}
use Rattle.sheet.proofs.Items.{asked, items_from}
use Rattle.sheet.proofs.headed.Headed.items_and_settings_sound.Given as goal

abbrev pub invariant-loop-k : goal.invariant-loop-k
invariant-loop-k l = record {
  in_range : l.k ≤ l.self.header.items;
  under_way : UnderWay l.self.sheet.now l.cover;
  same : asked l.self.sheet.now (items_from l.self.sheet.now l.k) (places_left l.self.sheet.now l.cover) l.address l.rate ≡ (items_sound l.self.sheet.now && settings_sound l.self.sheet.now);
}

abbrev pub decreases-loop-k : goal.decreases-loop-k
decreases-loop-k l = l.self.header.items - l.k
