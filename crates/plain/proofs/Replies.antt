-- The replies that the definitions lay in the answer buffer are those of the plain numbers. Assumes nothing.
use mathlib.Core.Path.{◌≡◌, refl, sym, ap, ◌∙◌}
use mathlib.Core.List.{List, [], ◌∷◌, ◌++◌, append_assoc}
use Prim.Native.Nat.{ℕ, zero, suc, ◌+◌, ◌-◌, ◌*◌, ◌/◌, ◌%◌, ◌≤◌, ◌<◌}
use native.Mathlib.Omega.{arith}
use lib.ListN.{length, take, drop, get_or-append}
use lib.Seq.{get_or-append-add, get_or-append_seam, get_or-drop, take_at}
use Rattle.words.specs.Words.{byte_at, word_at, upper, lower, bytes_of}
use Rattle.check_value.specs.Check.{value_of}
use Rattle.lists.specs.Lists.{up_from}
use Rattle.frame.specs.Reply.{words_from, read_reply, echo, error_reply, with_check, laid}
use Rattle.frame.proofs.Laying.{laid_length}
use Rattle.frame.proofs.Reading.{check_length}
use Rattle.bank_rules.specs.Stores.{word_of}
use Rattle.plain.specs.Numbers.{byte, word, Bytes}
use Rattle.plain.specs.Left.{Closed, ErrorReply, Echo}
use Rattle.plain.proofs.Rows.{word_same}

-- ---- a body with its check behind it, laid in a buffer

module _ (body buffer : List ℕ) (room : length body + 2 ≤ length buffer) where
  abbrev after : List ℕ
  after = laid (with_check body) buffer

  abbrev low : ℕ
  low = value_of body % 256

  abbrev high : ℕ
  high = value_of body / 256

  abbrev rest : List ℕ
  rest = drop (length (with_check body)) buffer

  as_one : after ≡ body ++ (low ∷ high ∷ rest)
  unfolding with_check
  as_one = append_assoc body (low ∷ high ∷ []) rest

  pub body_byte : (k : ℕ) → k < length body → byte after k ≡ byte body k
  body_byte k less = ap (λ (l : List ℕ). byte l k) as_one ∙ get_or-append body (low ∷ high ∷ rest) 0 k less

  low_byte : byte after (length body) ≡ low
  low_byte = ap (λ (l : List ℕ). byte l (length body)) as_one ∙ get_or-append_seam body low (high ∷ rest) 0

  high_byte : byte after (length body + 1) ≡ high
  high_byte = ap (λ (l : List ℕ). byte l (length body + 1)) as_one ∙ get_or-append-add body (low ∷ high ∷ rest) 1 0

  taken : take (length body) after ≡ body
  taken = ap (take (length body)) as_one ∙ take_at body (low ∷ high ∷ rest) (length body) refl

  beyond : (k : ℕ) → length body + 2 ≤ k → byte after k ≡ byte buffer k
  beyond k past =
      let size = check_length body in
      let j : ℕ = k - (length body + 2) in
      let sum : k ≡ length (with_check body) + j = omega (arith, size) in
      ap (byte after) sum ∙ get_or-append-add (with_check body) rest j 0 ∙ get_or-drop (length (with_check body)) buffer j 0 ∙ ap (byte buffer) (sym sum)

  pub closed_by : (n : ℕ) → n ≡ length body + 2 → Closed buffer after n
  closed_by n is =
      record {
        same_length = laid_length (with_check body) buffer (omega (arith, check_length body));
        check =
            let front : n - 2 ≡ length body = omega (arith, is) in
            let back : n - 1 ≡ length body + 1 = omega (arith, is) in
            let first = ap (byte after) front ∙ low_byte in
            let second = ap (byte after) back ∙ high_byte in
            let value = ap (λ (m : ℕ). value_of (take m after)) front ∙ ap value_of taken in
            omega (arith, first, second, value);
        beyond = λ k past. beyond k (omega (arith, is));
      }

-- ---- an error, and an echo

pub error_plain : (frame buffer : List ℕ) (code : ℕ) → 100 ≤ length buffer → ErrorReply frame buffer (laid (with_check (error_reply frame code)) buffer) code
unfolding with_check
error_plain frame buffer code room =
    record {
      closed = closed_by (error_reply frame code) buffer (omega arith) 5 refl;
      station = refl;
      function = refl;
      its_code = refl;
    }

pub echo_plain : (frame buffer : List ℕ) → Bytes frame → 100 ≤ length buffer → Echo frame buffer (laid (with_check (echo frame)) buffer)
unfolding with_check word_at
echo_plain frame buffer bytes room =
    record { closed = closed_by (echo frame) buffer (omega arith) 8 refl; six = λ k less. at k less }
  where
    at : (k : ℕ) → k < 6 → byte (laid (with_check (echo frame)) buffer) k ≡ byte frame k
    at zero less = refl
    at (suc zero) less = refl
    at (suc (suc zero)) less = omega (arith, bytes 2, bytes 3)
    at (suc (suc (suc zero))) less = omega (arith, bytes 2, bytes 3)
    at (suc (suc (suc (suc zero)))) less = omega (arith, bytes 4, bytes 5)
    at (suc (suc (suc (suc (suc zero))))) less = omega (arith, bytes 4, bytes 5)
    at (suc (suc (suc (suc (suc (suc k)))))) less = absurd (omega (arith, less))

-- ---- the words of a read

word_skip : (a : ℕ) (l : List ℕ) (n : ℕ) → word_at (a ∷ l) (suc n) ≡ word_at l n
unfolding word_at
word_skip a l n = ap (λ (k : ℕ). byte_at l n * 256 + byte_at (a ∷ l) k) (let next : suc n + 1 ≡ suc (n + 1) = omega arith in next)

word_halves : (w : ℕ) → upper w * 256 + lower w ≡ w
word_halves w = omega arith

run_word : (bank : List ℕ) (first many i : ℕ) (rest : List ℕ) → i < many
    → word_at (bytes_of (words_from bank first many) ++ rest) (2 * i) ≡ word_of bank (first + i)
unfolding bytes_of up_from word_at
run_word bank first zero i rest less = absurd (omega arith)
run_word bank first (suc many) zero rest less = word_halves (word_of bank first) ∙ ap (word_of bank) (let same : first ≡ first + 0 = omega arith in same)
run_word bank first (suc many) (suc i) rest less =
    ap (word_at (bytes_of (words_from bank first (suc many)) ++ rest)) (let next : 2 * suc i ≡ suc (suc (2 * i)) = omega arith in next)
    ∙ word_skip (upper (word_of bank first)) (lower (word_of bank first) ∷ bytes_of (words_from bank (suc first) many) ++ rest) (suc (2 * i))
    ∙ word_skip (lower (word_of bank first)) (bytes_of (words_from bank (suc first) many) ++ rest) (2 * i)
    ∙ run_word bank (suc first) many i rest (omega arith)
    ∙ ap (word_of bank) (let same : suc first + i ≡ first + suc i = omega arith in same)

pub read_word : (bank frame buffer : List ℕ) (first many i : ℕ) → i < many
    → word (laid (with_check (read_reply bank frame first many)) buffer) (3 + 2 * i) ≡ word bank (2 * (first + i))
unfolding with_check
read_word bank frame buffer first many i less =
    word_same (laid (with_check (read_reply bank frame first many)) buffer) (3 + 2 * i)
    ∙ ap (word_at (laid (with_check (read_reply bank frame first many)) buffer)) (let next : 3 + 2 * i ≡ suc (suc (suc (2 * i))) = omega arith in next)
    ∙ word_skip _ _ (suc (suc (2 * i))) ∙ word_skip _ _ (suc (2 * i)) ∙ word_skip _ _ (2 * i)
    ∙ ap (λ (l : List ℕ). word_at l (2 * i)) (append_assoc (bytes_of (words_from bank first many)) check tail)
    ∙ run_word bank first many i (check ++ tail) less
    ∙ sym (word_same bank (2 * (first + i)))
  where
    check : List ℕ
    check = value_of (read_reply bank frame first many) % 256 ∷ value_of (read_reply bank frame first many) / 256 ∷ []

    tail : List ℕ
    tail = drop (length (with_check (read_reply bank frame first many))) buffer
