-- The records of a sound ring by their numbers after one was added: record 1 is the added one, and record k + 1 is what record k was. Assumes
-- nothing.
use mathlib.Core.Path.{◌≡◌, refl, sym, ap, ap₂, ◌∙◌}
use mathlib.Core.Bool.{Bool, true, false}
use mathlib.Core.List.{List, ◌∷◌, map}
use mathlib.Core.Logic.{◌⊎◌, inl, inr}
use Prim.Native.Nat.{ℕ, zero, suc, ◌+◌, ◌-◌, ◌*◌, ◌%◌, ◌≤◌, ◌<◌}
use native.Mathlib.Omega.{arith}
use native.Mathlib.Nat.{mod-eq_of_lt, add-mod_right}
use lib.Dec.{ltb}
use borrow.Author.Tests.{ltb-true, ltb-false}
use Rattle.words.specs.Words.{word_at}
use Rattle.lists.specs.Lists.{up_from}
use Rattle.sheet_rules.specs.declared.RecordArea.{RecordArea}
use Rattle.bank_rules.specs.Stores.{word_of}
use Rattle.ring_rules.specs.Ring.{newest_place, stored_count, ring_sound, place_of, record_start, record_at, record_of, next_place, added}
use Rattle.ring_rules.specs.Theorems.{words_in}
use Rattle.ring_rules.proofs.Sound.{ring_told_lem, some_record}
use Rattle.ring_rules.proofs.Places.{back_straight, back_round, back_apart, behind_newest, round_to_first, next_inside, before_start}
use Rattle.ring_rules.proofs.Adding.{other_words_stay, record_added}
use Rattle.ring_rules.proofs.Kept.{newest_after}

-- two runs of numbers of one length, seen in two ways that agree one by one
pub runs_agree : {A : Type 0} (f g : ℕ → A) (from other count : ℕ) → ((k : ℕ) → k < count → f (from + k) ≡ g (other + k))
    → map f (up_from from count) ≡ map g (up_from other count)
unfolding up_from
runs_agree f g from other zero agree = refl
runs_agree {A} f g from other (suc count) agree =
    ap₂ (λ (a : A) (l : List A). a ∷ l) first (runs_agree f g (suc from) (suc other) count rest)
  where
    first : f from ≡ g other
    first =
        let here : from ≡ from + 0 = omega arith in
        let there : other + 0 ≡ other = omega arith in
        ap f here ∙ agree 0 (omega arith) ∙ ap g there

    rest : (k : ℕ) → k < count → f (suc from + k) ≡ g (suc other + k)
    rest k inside =
        let here : suc from + k ≡ from + suc k = omega arith in
        let there : other + suc k ≡ suc other + k = omega arith in
        ap f here ∙ agree (suc k) (omega arith) ∙ ap g there

-- rule T20 in plain numbers: record k of a sound ring is k - 1 places in front of the newest, or that many in front of it round from place 0 to the last
module _ (records : RecordArea) (ring : List ℕ) (whole : ring_sound records ring ≡ true) (number : ℕ) where
  pub place_straight : number - 1 ≤ newest_place ring → place_of records ring number ≡ newest_place ring - (number - 1)
  place_straight enough = back_straight records.records (newest_place ring) (number - 1) (ring_told_lem records ring whole).place enough

  pub place_round : newest_place ring < number - 1 → number - 1 ≤ records.records
      → place_of records ring number ≡ newest_place ring + records.records - (number - 1)
  place_round short some = back_round records.records (newest_place ring) (number - 1) (ring_told_lem records ring whole).place short some

module _ (records : RecordArea) (ring bytes : List ℕ) (whole : ring_sound records ring ≡ true) where
  abbrev N : ℕ
  N = records.records

  some : 1 ≤ records.records
  some = some_record records ring whole

  next_within : next_place records ring < records.records
  next_within = next_inside records ring some

  -- the record at another place stays as it is
  pub other_record_stays : (place : ℕ) → (place ≡ next_place records ring → ⊥)
      → record_at records (added records ring bytes) place ≡ record_at records ring place
  other_record_stays place apart =
      runs_agree (word_of (added records ring bytes)) (word_of ring) (record_start records place) (record_start records place) records.words
      (λ k inside. other_words_stay records ring bytes (record_start records place + k) (omega arith) (outside k inside))
    where
      outside : (k : ℕ) → k < records.words
          → (record_start records place + k < record_start records (next_place records ring))
          ⊎ (record_start records (next_place records ring) + records.words ≤ record_start records place + k)
      outside k inside = go (ltb place (next_place records ring)) refl
        where
          go : (front : Bool) → ltb place (next_place records ring) ≡ front
              → (record_start records place + k < record_start records (next_place records ring))
              ⊎ (record_start records (next_place records ring) + records.words ≤ record_start records place + k)
          go true e = inl (omega (arith, before_start records place (next_place records ring) (ltb-true place (next_place records ring) e)))
          go false e =
              let least = ltb-false place (next_place records ring) e in
              let less : next_place records ring < place = omega (arith, apart) in
              inr (omega (arith, before_start records (next_place records ring) place less))

  -- record 1 is the added one
  first_place_of : place_of records (added records ring bytes) 1 ≡ next_place records ring
  first_place_of =
      let same : newest_place (added records ring bytes) + N - (1 - 1) ≡ next_place records ring + N = omega (arith, newest_after records ring bytes whole) in
      ap (λ (n : ℕ). n % N) same ∙ add-mod_right (next_place records ring) N ∙ mod-eq_of_lt next_within

  pub newest_is_added : record_of records (added records ring bytes) 1 ≡ words_in records bytes
  newest_is_added =
      ap (record_at records (added records ring bytes)) first_place_of
      ∙ runs_agree (word_of (added records ring bytes)) (λ k. word_at bytes (2 * k)) (record_start records (next_place records ring)) 0 records.words
      (λ k inside. record_added records ring bytes (ring_told_lem records ring whole).size some k inside ∙ ap (λ (n : ℕ). word_at bytes (2 * n)) (from_zero_lem k))
    where
      from_zero_lem : (k : ℕ) → k ≡ 0 + k
      from_zero_lem k = omega arith

  -- and every other one has the next number
  module _ (k : ℕ) (least : 1 ≤ k) (held : k ≤ stored_count ring) (room : k + 1 ≤ records.records) where
    stored : stored_count ring ≡ 0 → ⊥
    stored none = omega arith

    -- it is the same place
    same_place : place_of records (added records ring bytes) (k + 1) ≡ place_of records ring k
    same_place = ap (λ (n : ℕ). (n + N - (k + 1 - 1)) % N) (newest_after records ring bytes whole) ∙ go (ltb (newest_place ring + 1) N) refl
      where
        go : (behind : Bool) → ltb (newest_place ring + 1) N ≡ behind
            → (next_place records ring + N - (k + 1 - 1)) % N ≡ (newest_place ring + N - (k - 1)) % N
        go true e =
            let next = behind_newest records ring stored (ltb-true (newest_place ring + 1) N e) in
            let same : next_place records ring + N - (k + 1 - 1) ≡ newest_place ring + N - (k - 1) = omega arith in
            ap (λ (n : ℕ). n % N) same
        go false e =
            let most = ltb-false (newest_place ring + 1) N e in
            let last : newest_place ring + 1 ≡ N = omega (arith, (ring_told_lem records ring whole).place) in
            let next = round_to_first records ring stored last in
            let same : next_place records ring + N - (k + 1 - 1) ≡ N - k = omega arith in
            let more : newest_place ring + N - (k - 1) ≡ N - k + N = omega arith in
            ap (λ (n : ℕ). n % N) same ∙ sym (add-mod_right (N - k) N) ∙ ap (λ (n : ℕ). n % N) (sym more)

    -- and not that of the added one
    place_apart : place_of records ring k ≡ next_place records ring → ⊥
    place_apart same =
        let back : newest_place (added records ring bytes) + N - (k + 1 - 1) ≡ next_place records ring + N - k =
        omega (arith, newest_after records ring bytes whole) in
        back_apart N (next_place records ring) k next_within least (omega arith) (sym (ap (λ (n : ℕ). n % N) back) ∙ same_place ∙ same)

    pub others_go_on : record_of records (added records ring bytes) (k + 1) ≡ record_of records ring k
    others_go_on =
        ap (record_at records (added records ring bytes)) same_place ∙ other_record_stays (place_of records ring k) place_apart
