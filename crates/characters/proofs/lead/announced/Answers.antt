-- The rule of the table is a test at each of its 256 entries, which is computed.
use Rattle.std.proofs.Common.{ℕ, Bool, eqb, List, ◌++◌, get_or, replicate, refl, arith, eqb-true}
use Rattle.model.specs.Bytes.{lead_length}
use Rattle.characters.proofs.Table.{entry}
use Rattle.characters.proofs.lead.announced.Goals as goal

abbrev lengths : List ℕ
lengths = replicate 128 1 ++ replicate 66 0 ++ replicate 30 2 ++ replicate 16 3 ++ replicate 5 4 ++ replicate 11 0

right : ℕ → ℕ → Bool
right k x = eqb x (lead_length k)

pub returns : goal.returns
unfolding right
returns c = eqb-true (get_or lengths c.args.lead 0) (lead_length c.args.lead) (entry right lengths refl c.args.lead (omega arith))
