-- The addresses that are left are read only exactly if all are.
use Rattle.std.proofs.Common.{◌+◌, ◌-◌, ◌≡◌, ◌≤◌}
use Rattle.lists.specs.Lists.{up_from}
use Rattle.bank_rules.specs.Bank.{all_read_only}
use Rattle.bank_steps.proofs.all_read_only.Given as goal

abbrev pub invariant-loop-k : goal.invariant-loop-k
invariant-loop-k l =
    record {
      small : l.k ≤ 0x10000 - l.address;
      left : all_read_only l.sheet (up_from (l.address + l.k) (l.count - l.k)) ≡ all_read_only l.sheet (up_from l.address l.count);
    }
