-- How far a walk over the items has covered the places of the access 2 and access 3 areas: what the code's walk keeps. Only private promises cite
-- this file. Assumes nothing.
use Rattle.std.specs.Prelude.{ℕ, ◌+◌, ◌-◌, ◌≤◌, ◌<◌, ◌≡◌, true, cond, List, ◌++◌, ltb}
use Rattle.sheet_rules.specs.declared.Item.{Item}
use Rattle.sheet.specs.declared.item_rows.Cover.{Cover}
use Rattle.sheet_rules.specs.Rows.{area_count, area_at, areas}
use Rattle.lists.specs.Lists.{each, up_from, rows}
use Rattle.sheet_rules.specs.Rules.{access_rule, first_last_rule, places_follow, is_pair, covered_places, pair_within}

-- how many places an item has
abbrev pub size_of : Item → ℕ
size_of item = cond (is_pair item) 2 1

-- the places that are left to cover: those of the area at hand, and those of the access 2 and access 3 areas behind it
unfoldable pub places_left : List ℕ → Cover → List ℕ
places_left sheet cover =
    up_from cover.next (cover.end - cover.next)
    ++ covered_places (rows (area_at sheet) cover.area (area_count sheet - cover.area))

-- a cover that is under way: a pair at one of the places that the area at hand has left lies within one area just where the next place is one of
-- them too
pub record UnderWay (sheet : List ℕ) (cover : Cover) : Type 0 where
  pub known : each access_rule (areas sheet) ≡ true
  pub order : each first_last_rule (areas sheet) ≡ true
  pub follow : places_follow 0 (areas sheet) ≡ true
  pub ordered : cover.next ≤ cover.end
  pub within : cover.area ≤ area_count sheet
  pub small : cover.end < 0x20000
  pub whole : (place : ℕ) → cover.next ≤ place → place < cover.end → pair_within (areas sheet) place ≡ ltb (place + 1) cover.end

-- the same cover, at an area that has places left, if there is one
pub record Opened (sheet : List ℕ) (before after : Cover) : Type 0 where
  pub under_way : UnderWay sheet after
  pub left : places_left sheet after ≡ places_left sheet before
  pub last : after.end ≤ after.next → area_count sheet ≤ after.area
