use mathlib.Core.Path.{◌≡◌, ◌∙◌}
use native.Mathlib.Omega.{arith}
use Rattle.octets.specs.Octets.{be_at}
use Rattle.octets.proofs.Words.{be_taken}
use Rattle.octets.proofs.be16.Goals as goal

pub returns : goal.returns
unfolding be_at
returns c =
    let number : c.from_be_bytes.result ≡ be_at c.word.result 0 2 = omega (arith, c.from_be_bytes.ensures) in
    number ∙ be_taken _ _ _ 2 c.word.ensures
