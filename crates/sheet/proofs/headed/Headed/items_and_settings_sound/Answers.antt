-- `sheet::headed::Headed::items_and_settings_sound` meets its contract: what the rules ask goes on item by item. Assumes nothing.
use Rattle.std.proofs.Common.{◌≡◌, sym, ap, ◌∙◌, Bool, ◌&&◌, ◌||◌, ◌+◌, ◌<◌, ◌≤◌, leb, eqb, arith}
use borrow.Author.Tests.{leb-true}
use Rattle.lists.proofs.Tests.{second_of_lem}
use Rattle.sheet_rules.specs.declared.Header.{Header}
use Rattle.sheet_rules.specs.Rows.{item_count, item_row}
use Rattle.sheet_rules.specs.Rules.{items_sound, settings_sound, address_item, rate_item}
use Rattle.sheet.specs.Cover.{size_of}
use Rattle.sheet.proofs.Covering.{way_start, way_on}
use Rattle.sheet.proofs.Items.{asked_all, asked_same, refused_itself, refused_place, passed_on, refused_left, passed_all}
use Rattle.sheet.proofs.HeaderWords.{address_is, items_is, rate_is}
use Rattle.sheet.proofs.headed.Headed.items_and_settings_sound.Goals as goal
use Rattle.sheet.proofs.headed.Headed.items_and_settings_sound.Goals.{Else-at}

pub returns-then-address_place-rate_place : goal.returns-then-address_place-rate_place
returns-then-address_place-rate_place c =
    let header = c.args.self.read in
    sym (asked_same c.args.self.sheet.now (sym (address_is c.args.self) ∙ c.if-address_place-rate_place.true ∙ rate_is c.args.self))

pub loop-k-init : goal.loop-k-init
loop-k-init c =
    let s = c.args.self.sheet.now in
    let header = c.args.self.read in
    record {
      in_range = omega (arith, items_is c.args.self);
      under_way = way_start s c.requires;
      same =
          asked_all s
          (λ same. c.if-address_place-rate_place.false (address_is c.args.self ∙ same ∙ sym (rate_is c.args.self)));
    }

pub returns-then-at : goal.returns-then-at
returns-then-at c =
    let loop = c.loop-k in
    let left = c.opened-at in
    let past : item_count c.args.self.sheet.now ≤ loop.k = omega (arith, items_is c.args.self) in
    sym (refused_left c.args.self.sheet.now loop.k loop.cover left.result left.ensures loop.address loop.rate past c.if-at.true) ∙ loop.invariant.same

passed : (c : Else-at) → (c.loop-k.address && c.loop-k.rate) ≡ (items_sound c.args.self.sheet.now && settings_sound c.args.self.sheet.now)
passed c =
    let loop = c.loop-k in
    let left = c.opened-at in
    let past : item_count c.args.self.sheet.now ≤ loop.k = omega (arith, items_is c.args.self) in
    sym (passed_all c.args.self.sheet.now loop.k loop.cover left.result left.ensures loop.address loop.rate past c.if-at.false)
    ∙ loop.invariant.same

pub returns-then-address : goal.returns-then-address
returns-then-address c = sym (ap (λ (b : Bool). b && c.loop-k.rate) c.if-address.true) ∙ passed (goal.at.returns-then-address c).Else-at

pub returns-else-address : goal.returns-else-address
returns-else-address c =
    c.if-address.false ∙ sym (ap (λ (b : Bool). b && c.loop-k.rate) c.if-address.false) ∙ passed (goal.at.returns-else-address c).Else-at

pub returns-then-not-item_sound : goal.returns-then-not-item_sound
returns-then-not-item_sound c =
    let s = c.args.self.sheet.now in
    let loop = c.loop-k in
    let at = c.opened-at in
    let row = c.item_row-item in
    let item_says = row.ensures ∙ ap (λ (h : Header). item_row s h.areas loop.k) c.args.self.read in
    let inside : loop.k < item_count s = omega (arith, items_is c.args.self) in
    sym (refused_itself s loop.k loop.cover at.result at.ensures loop.address loop.rate row.result item_says inside
    (sym c.item_sound.ensures ∙ c.if-not-item_sound.true))
    ∙ loop.invariant.same

pub returns-then-not-covers : goal.returns-then-not-covers
returns-then-not-covers c =
    let s = c.args.self.sheet.now in
    let loop = c.loop-k in
    let at = c.opened-at in
    let row = c.item_row-item in
    let item_says = row.ensures ∙ ap (λ (h : Header). item_row s h.areas loop.k) c.args.self.read in
    let inside : loop.k < item_count s = omega (arith, items_is c.args.self) in
    sym (refused_place s loop.k loop.cover at.result at.ensures loop.address loop.rate row.result item_says inside
    (sym c.item_sound.ensures ∙ c.if-not-item_sound.false) (sym c.covers.ensures ∙ c.if-not-covers.true))
    ∙ loop.invariant.same

pub loop-k-preserved : goal.loop-k-preserved
loop-k-preserved c =
    let s = c.args.self.sheet.now in
    let header = c.args.self.read in
    let loop = c.loop-k in
    let at = c.opened-at in
    let row = c.item_row-item in
    let item = row.result in
    let size = c.size_of in
    let item_says = row.ensures ∙ ap (λ (h : Header). item_row s h.areas loop.k) c.args.self.read in
    let inside : loop.k < item_count s = omega (arith, items_is c.args.self) in
    let fits = sym c.covers.ensures ∙ c.if-not-covers.false in
    let within =
    leb-true (at.result.next + size_of item) at.result.end
    (second_of_lem (eqb item.place at.result.next) (leb (at.result.next + size_of item) at.result.end) fits) in
    record {
      in_range = omega (arith, items_is c.args.self);
      under_way = way_on s at.result size.result at.ensures.under_way (omega (arith, size.ensures, within));
      same =
          sym (passed_on s loop.k loop.cover at.result at.ensures loop.address loop.rate item item_says inside
          (sym c.item_sound.ensures ∙ c.if-not-item_sound.false) fits size.ensures
          (c.address_found-address.ensures ∙ ap (λ (h : Header). loop.address || address_item h.address item) header)
          (c.rate_found-rate.ensures ∙ ap (λ (h : Header). loop.rate || rate_item h.rate item) header))
          ∙ loop.invariant.same;
    }
