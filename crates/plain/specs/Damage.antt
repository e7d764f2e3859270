-- A frame that was sent, and what arrives of it: bits in the order sent, as plain numbers. Assumes nothing.
use Rattle.std.specs.Prelude.{◌≡◌, ◌⊎◌, List, [], ◌∷◌, ◌++◌, ℕ, ◌+◌, ◌*◌, ◌/◌, ◌%◌, ◌^◌, ◌≤◌, ◌<◌, length}
use Rattle.check_value.specs.Check.{value_of}
use Rattle.plain.specs.Numbers.{byte, Bytes}

-- rule D30, a frame that was sent right: a body with its check value behind it, low byte first
pub record Sent (frame : List ℕ) : Type 0 where
  pub bytes : Bytes frame
  pub least : 4 ≤ length frame
  pub most : length frame ≤ 100
  pub body : List ℕ
  pub its_check : frame ≡ body ++ (value_of body % 256 ∷ value_of body / 256 ∷ [])

-- rules D33 and C7, the k-th bit in sending order: eight of each byte, the lowest first
abbrev pub bit : List ℕ → ℕ → ℕ
bit frame k = byte frame (k / 8) / 2 ^ (k % 8) % 2

-- the k-th bit was changed
abbrev pub Changed : List ℕ → List ℕ → ℕ → Type 0
Changed sent received k = (k < 8 * length sent) × (bit sent k ≡ bit received k → ⊥)

-- rule D31: the length is kept; at least one bit was changed; and one, two or three, or all in one run of sixteen
pub record Damage (sent received : List ℕ) : Type 0 where
  pub same_length : length received ≡ length sent
  pub at_least_one : (k : ℕ) × Changed sent received k
  pub few_or_one_run : ((a b c : ℕ) × ((k : ℕ) → Changed sent received k → (k ≡ a) ⊎ (k ≡ b) ⊎ (k ≡ c)))
      ⊎ ((first : ℕ) × ((k : ℕ) → Changed sent received k → (first ≤ k) × (k < first + 16)))
