-- `xor` meets its contract, by what its four calls ensure. Assumes nothing.
use mathlib.Core.Path.{ap₂, sym, ◌∙◌}
use mathlib.Core.List.{◌++◌}
use Rattle.lanes.proofs.Laws.Lanes.{xors-four}
use Rattle.lanes.proofs.four.FourWide.xor.Goals as goal

pub returns : goal.returns
returns g c =
    let x = c.args.self in
    let y = c.args.other in
    let b = g.T.Wide.bytes in
    let long = g.met.T.Wide.long in
    record {
      bytes =
          ap₂ ◌++◌ c.xor.ensures.bytes (ap₂ ◌++◌ c.xor-2.ensures.bytes (ap₂ ◌++◌ c.xor-3.ensures.bytes c.xor-4.ensures.bytes))
          ∙ xors-four (b x.a) (b x.b) (b x.c) (b x.d) (b y.a) (b y.b) (b y.c) (b y.d) (long x.a ∙ sym (long y.a)) (long x.b ∙ sym (long y.b)) (long x.c ∙ sym (long y.c));
    }
