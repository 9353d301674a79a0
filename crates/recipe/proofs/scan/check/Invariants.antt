use Prim.Native.Nat.{◌-◌, ◌≤◌}
use mathlib.Core.Path.{◌≡◌}
use lib.ListN.{length}
use Rattle.recipe.specs.Scan.{scan, says, passed, check_of}
use Rattle.recipe.proofs.scan.check.Given as goal

abbrev pub invariant-loop-number : goal.invariant-loop-number
invariant-loop-number l = record {
  inside : l.c.end ≤ length l.s;
  counted : l.c.count ≡ l.number;
  limits : l.c.limits ≤ l.c.end;
  told : check_of l.s l.most l.all l.wanted
      ≡ says l.wanted (passed l.c) (scan l.all l.s (l.most - l.number) l.c.end);
}
