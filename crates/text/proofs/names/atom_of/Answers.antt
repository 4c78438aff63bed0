use Rattle.std.proofs.Common.{◌≡◌, ℕ, length, take, min, rules, tests, ap, ◌∙◌}
use Rattle.std.specs.Str.{bytes_eq}
use Rattle.std.proofs.Math.Nat.{min_comm}
use Rattle.std.proofs.lemmas.List.{take_min}
use Rattle.std.proofs.lemmas.Iterator.{YieldsList-from_slice}
use Rattle.std.proofs.lemmas.Iterator.Search.{position_from_yields_List}
use Rattle.text.specs.Names.{part_of}
use Rattle.text.proofs.Finds.{called}
use Rattle.text.proofs.names.atom_of.Goals as goal

pub returns-clause-is : goal.returns-clause-is
returns-clause-is c =
    let same : c.map.result ≡ c.position.result = search rules in
    let few : c.min.result ≡ min (length c.args.places.now) 64 = c.min.ensures in
    let first : take c.min.result c.args.places.now ≡ take 64 c.args.places.now =
    ap (λ (n : ℕ). take n c.args.places.now) (few ∙ min_comm (length c.args.places.now) 64) ∙ take_min 64 c.args.places.now in
    same
    ∙ position_from_yields_List (λ place. bytes_eq (part_of c.args.text.now place) c.args.word.now) _ _ _ c.position.ensures.ran (YieldsList-from_slice (take 64 c.args.places.now) (c.iter.ensures.rest ∙ first)) (λ x b q k. search (rules, tests))
    ∙ called (part_of c.args.text.now) c.args.word.now (take 64 c.args.places.now)
