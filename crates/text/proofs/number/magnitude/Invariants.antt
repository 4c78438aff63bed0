use Rattle.std.proofs.Common.{◌≡◌, ◌≤◌, drop}
use Rattle.text.specs.Numbers.{digits, small, magnitude_of}
use Rattle.text.proofs.number.magnitude.Given as goal

abbrev pub invariant-loop-b : goal.invariant-loop-b
invariant-loop-b l = (small (digits l.n (drop l.b-index l.word)) ≡ magnitude_of l.word) × (l.n ≤ 1000000)
