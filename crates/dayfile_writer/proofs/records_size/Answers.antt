-- A record has 19 bytes at most, so all of them fit.
use Rattle.std.proofs.Common.{◌≡◌, ◌+◌, ◌∙◌, sum, map, length, arith, rules}
use Rattle.day.specs.Sums.{at}
use Rattle.day.specs.File.{limit_of}
use Rattle.dayfile.specs.Theorems.{most_bytes}
use Rattle.dayfile_writer.proofs.Stores.{sizes_summed}
use Rattle.dayfile_writer.proofs.records_size.Goals as goal

pub returns : goal.returns
returns c =
    let store = c.args.store.now in
    let summed : c.sum.result ≡ sum (map (λ s. 17 + length (limit_of s)) store) = search rules in
    let is = summed ∙ sizes_summed store in
    record { is = is; low = omega (arith, is, most_bytes (at store) (length store), c.requires) }
