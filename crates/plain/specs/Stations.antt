-- The stations that a meter can have, and those that no meter has, in plain numbers. Assumes nothing.
use Rattle.std.specs.Prelude.{◌≡◌, ◌⊎◌, ℕ, ◌≤◌, ◌<◌}

-- rules S63 and J21: 1 to F7, which is 247
pub record Station (station : ℕ) : Type 0 where
  pub least : 1 ≤ station
  pub most : station ≤ 0xF7

-- rules J21 and D25, numbers that no meter has: 0, by which a master means all of them at once, and what is reserved above F7
abbrev pub KeptBack : ℕ → Type 0
KeptBack station = (station ≡ 0) ⊎ (0xF7 < station)
