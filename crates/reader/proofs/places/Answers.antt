-- `places` meets its contract: each place is the binding's.
use Rattle.std.proofs.Common.{rules}
use Rattle.reader.specs.Binding.{place_of, places_of}
use Rattle.ranges.specs.Arrays.{made}
use Rattle.reader.proofs.places.Goals as goal

pub returns : goal.returns
unfolding places_of
returns c = made _ 80 (place_of c.args.binding.now) _ (λ i y q l k. search rules) _ c.from_fn.ensures.items
