use Rattle.std.proofs.lemmas.Result.{MatchResult-weaker}
use Rattle.approx.proofs.Laws.{Lawful}
use Rattle.approx.proofs.Rounding.{settled_uncrossed}
use Rattle.programs.specs.Programs.{program_meaning}
use Rattle.programs.specs.Obeying.{program_lawful}
use Rattle.classics.proofs.Written.{sheets_normal}
use Rattle.classics.proofs.Founding.{settled_well_founded}
use Rattle.classics.proofs.models.well_founded_model.Goals as goal

pub returns : goal.returns
returns g c =
    let p = c.args.program.now in
    let laws : Lawful (program_meaning g.R.Reading p) = program_lawful g.R.Reading g.met.R.Reading.laws p in
    record {
      settled = MatchResult-weaker c.settle.result c.settle.ensures (λ b s. s) (λ f x. settled_uncrossed laws x.1);
      model = MatchResult-weaker c.settle.result c.settle.ensures
          (λ b s n. settled_well_founded p.table n (g.R.Reading.sure p.reading) (g.R.Reading.may p.reading) laws s) (λ f x. settled_uncrossed laws x.1);
      sheets = sheets_normal;
    }
