-- No second answer satisfies the promise of a public function of numbers.
-- Document 01, "Strength of the promises".
use mathlib.Core.Path.{sym, ◌∙◌}
use Rattle.ranges.specs.Promises.{Determines}
use Rattle.numbers.proofs.wide.Kinds as wide-kinds
use Rattle.numbers.proofs.wide.Reads as wide
use Rattle.numbers.proofs.word.Kinds as word-kinds
use Rattle.numbers.proofs.word.Reads as word
use Rattle.numbers.proofs.choose.Kinds as choose-kinds
use Rattle.numbers.proofs.choose.Reads as choose
use Rattle.numbers.proofs.choose_word.Kinds as choose-word-kinds
use Rattle.numbers.proofs.choose_word.Reads as choose_word
use Rattle.numbers.proofs.one_if.Kinds as one-if-kinds
use Rattle.numbers.proofs.one_if.Reads as one-if
use Rattle.numbers.proofs.greater.Kinds as greater-kinds
use Rattle.numbers.proofs.greater.Reads as greater

pub wide-unique : Determines 0 wide-kinds.ps wide-kinds.r wide.Post
wide-unique κs a x y s t p q = p.0 ∙ sym q.0

pub word-unique : Determines 0 word-kinds.ps word-kinds.r word.Post
word-unique κs a x y s t p q = p ∙ sym q

pub choose-unique : Determines 0 choose-kinds.ps choose-kinds.r choose.Post
choose-unique κs a x y s t p q = p ∙ sym q

pub choose-word-unique : Determines 0 choose-word-kinds.ps choose-word-kinds.r choose_word.Post
choose-word-unique κs a x y s t p q = p ∙ sym q

pub one-if-unique : Determines 0 one-if-kinds.ps one-if-kinds.r one-if.Post
one-if-unique κs a x y s t p q = p.0 ∙ sym q.0

pub greater-unique : Determines 0 greater-kinds.ps greater-kinds.r greater.Post
greater-unique κs a x y s t p q = p ∙ sym q
