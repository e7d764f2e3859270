-- There are such memories: for any bytes there is one in which they lie as a sheet, a bank, a ring, a frame and an answer buffer, and from it the export
-- `cedarskein_answer` runs on `Machine`'s machine, hands back and leaves what is promised. Assumes nothing.
use mathlib.Core.List.{List}
use Prim.Native.Nat.{ℕ, ◌+◌, ◌<◌, ◌^◌}
use lib.ListN.{length}
use mir.Syntax.{w8}
use prog.Model.{AllFit}
use contract.BorrowModel.{logic₀}
use contract.Closed.{model⁺, real⁺}
use Rattle.cedarskein_c.proofs.cedarskein_answer.Symbol as answer_code
use Rattle.runs.proofs.Witness.{CallReturned, some_call_on}
use Rattle.cedarskein_c.proofs.Exports.{answer_returns}
use Rattle.cedarskein_c.proofs.Machine.{export_machine, has_answer}

module _ (sheet bank ring frame buffer : List ℕ) where
  pub some_export_answer : AllFit w8 sheet → AllFit w8 bank → AllFit w8 ring → AllFit w8 frame → AllFit w8 buffer
      → length sheet < 2 ^ 63 → length bank < 2 ^ 63 → length ring < 2 ^ 63 → length frame < 2 ^ 63 → length buffer < 2 ^ 63
      → ∥ CallReturned sheet bank ring frame buffer answer_code.code answer_code.name export_machine ∥₁
  some_export_answer =
      some_call_on sheet bank ring frame buffer answer_code.code answer_code.name export_machine (λ length_at rate_at.
      answer_returns logic₀ model⁺ real⁺ export_machine (0, 0) (1, 0) (0, length sheet) (0, length sheet + length ring) (1, length bank) length_at rate_at
      sheet bank ring frame buffer 0 0) has_answer
