-- Every number is a station that a meter can have or is kept back, and none is both. A sound bank is at one of the former, and so a frame for
-- one that is kept back gets silence. Assumes nothing.
use mathlib.Core.Path.{◌≡◌, refl, subst}
use mathlib.Core.Bool.{Bool, true, false}
use mathlib.Core.List.{List}
use mathlib.Core.Logic.{◌⊎◌, inl, inr}
use Prim.Native.Nat.{ℕ, zero, suc, ◌*◌}
use native.Mathlib.Omega.{arith}
use lib.Dec.{leb}
use borrow.Author.Tests.{leb-true, leb-false}
use Rattle.sheet_rules.specs.Rules.{sound}
use Rattle.bank_rules.specs.Bank.{bank_sound}
use Rattle.bank_rules.specs.Calls.{Lent}
use Rattle.bank_rules.proofs.Station.{station_within}
use Rattle.plain.specs.Numbers.{byte, word}
use Rattle.plain.specs.Stations.{Station, KeptBack}
use Rattle.plain.specs.Frame as plain
use Rattle.plain.specs.Frame.{OurStation, Fate, silence, Gets}
use Rattle.plain.proofs.Rows.{word_same}

pub station_or_kept_back : (station : ℕ) → Station station ⊎ KeptBack station
station_or_kept_back zero = inr (inl refl)
station_or_kept_back (suc below) = go (leb (suc below) 0xF7) refl
  where
    go : (small : Bool) → leb (suc below) 0xF7 ≡ small → Station (suc below) ⊎ KeptBack (suc below)
    go true e = inl record { least = omega arith; most = omega (arith, leb-true (suc below) 0xF7 e) }
    go false e = inr (inr (omega (arith, leb-false (suc below) 0xF7 e)))

pub never_both : {station : ℕ} → Station station → KeptBack station → ⊥
never_both can (inl none) = omega (arith, can.least)
never_both can (inr above) = omega (arith, can.most)

module _ (given : Lent) (keeps : sound given.sheet ≡ true) (whole : bank_sound given.sheet given.bank ≡ true) where
  -- the word of the bank at the place that header word 8 gives
  pub bank_station_lem : Station (word given.bank (2 * word given.sheet 16))
  bank_station_lem =
      let within = station_within given.sheet given.bank keeps whole in
      rw (word_same given.sheet 16, word_same given.bank) record { least = omega (arith, within.0); most = omega (arith, within.1) }

  module _ (frame : List ℕ) (kept_back : KeptBack (byte frame 0)) where
    not_ours : OurStation given frame → ⊥
    not_ours ours = never_both bank_station_lem (subst KeptBack ours kept_back)

    pub kept_back_quiet : {fate : Fate} → Gets given frame fate → fate ≡ silence
    kept_back_quiet (plain.not_whole broken) = refl
    kept_back_quiet (plain.other_station w other) = refl
    kept_back_quiet (plain.not_allowed w ours wrong) = absurd (not_ours ours)
    kept_back_quiet (plain.wrong_length w ours may wrong) = absurd (not_ours ours)
    kept_back_quiet (plain.wrong_count w ours may long wrong) = absurd (not_ours ours)
    kept_back_quiet (plain.wrong_address w ours may long counted wrong) = absurd (not_ours ours)
    kept_back_quiet (plain.wrong_value w ours may long counted placed wrong) = absurd (not_ours ours)
    kept_back_quiet (plain.all_right w ours may long counted placed valued) = absurd (not_ours ours)
