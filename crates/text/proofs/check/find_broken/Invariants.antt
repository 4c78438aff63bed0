use Rattle.std.proofs.Common.{◌≡◌, ℕ, ◌+◌, ◌≤◌, Bool, length}
use Rattle.text.specs.Text.{start, Tests, first_broken}
use Rattle.text.proofs.check.find_broken.Given as goal

abbrev pub invariant-loop-byte : goal.invariant-loop-byte
invariant-loop-byte g l =
    ((bad : ℕ → ℕ → ℕ → Bool) → Tests g.F.Fn l.broken bad → first_broken bad l.at l.before l.left ≡ first_broken bad start 10 l.fn.text)
    × (l.at.line + length l.left ≤ length l.fn.text + 1) × (l.at.column + length l.left ≤ length l.fn.text + 1)

abbrev pub decreases-loop-byte : goal.decreases-loop-byte
decreases-loop-byte g l = length l.left
