-- Laws of the answers: what a run that is done has met, and that a refusal leaves what was lent as it was.
-- Document 01, "Numbers that come back".
use Rattle.std.specs.Prelude.{◌≡◌, ℕ, ◌≤◌, not, List, length, ◌==◌, ◌≢◌, Result, Ok, Err}
use Rattle.std.proofs.Math.Path.{sym, ap}
use Rattle.std.proofs.Common.{◌∙◌, arith}
use borrow.Author.Tests.{eqb-true, eqb-false, eq-eqb, ne_eqb, not-true, not-false}
use Rattle.ranges.specs.Truth.{accepted-else, cond-true, cond-false}
use Rattle.reader.specs.Block.{reading, incoming, outgoing, last_step}
use Rattle.reader.specs.Binding.{formed, form_of}
use Rattle.reader.specs.Table.{table_of}
use Rattle.reader.specs.TableLaws.{shows, rows_few}
use Rattle.reader.specs.WellFormed.{form-of-read}
use Rattle.runner.specs.BlockRun.{sent_words}
use Rattle.runner.specs.DatapathRun.{file_at, taken_words}
use Rattle.runner.specs.Answers.{refused, done, counted, registered, ran_block, outgoing_after_block, ran_datapath, outgoing_after_datapath, registers_after, RunsBlock, RunsDatapath}
use Rattle.runner.specs.Numbers.{Ran, ran_as}
use Rattle.reader.specs.Numbers.{Reading, Formed}
use Rattle.reader.specs.declared.refusals.Refusal.{Refusal}
use Rattle.reader.specs.declared.refusals.Fault.{Fault}
use Rattle.reader.specs.Refusals.{read_as, formed_as, twice}
use Rattle.reader.proofs.RefusalLaws.{not-zero, one-refusal}

abbrev number : Ran → ℕ
number r = r.number

-- ---- done

-- the words are as many as the records ask, and what comes after is done too
pub record Counted (b w o : List ℕ) (next : Ran) : Type 0 where
  pub incoming-words : length w ≡ incoming b
  pub outgoing-room : length o ≡ outgoing b
  pub after : next.number ≡ 0

counted-done : (b w o : List ℕ) (next : Ran) → (counted b w o next).number ≡ 0 → Counted b w o next
unfolding counted
counted-done b w o next e =
    let p1 = accepted-else number (not (length w == incoming b)) _ _ (λ t z. omega arith) e in
    let p2 = accepted-else number (not (length o == outgoing b)) _ _ (λ t z. omega arith) p1.1 in
    record {
      incoming-words = eqb-true _ _ (not-false _ p1.0);
      outgoing-room = eqb-true _ _ (not-false _ p2.0);
      after = p2.1;
    }

pub record BlockDone (b w o : List ℕ) : Type 0 where
  pub readable : (reading b).number ≡ 0
  pub incoming-words : length w ≡ incoming b
  pub outgoing-room : length o ≡ outgoing b

pub block-done : (b w o : List ℕ) → (ran_block b w o).number ≡ 0 → BlockDone b w o
unfolding ran_block
block-done b w o e =
    let p1 = accepted-else number (not ((reading b).number == 0)) _ _ (λ t z. eqb-false (reading b).number 0 (not-true _ t) z) e in
    let p2 = counted-done b w o _ p1.1 in
    record { readable = eqb-true _ _ (not-false _ p1.0); incoming-words = p2.incoming-words; outgoing-room = p2.outgoing-room }

pub record DatapathDone (b d w o f : List ℕ) : Type 0 where
  pub readable : (reading b).number ≡ 0
  pub well-formed : (formed b d).number ≡ 0
  pub incoming-words : length w ≡ incoming b
  pub outgoing-room : length o ≡ outgoing b
  pub registers : length f ≡ 80

pub datapath-done : (b d w o f : List ℕ) → (ran_datapath b d w o f).number ≡ 0 → DatapathDone b d w o f
unfolding ran_datapath
datapath-done b d w o f e =
    let p1 = accepted-else number (not ((reading b).number == 0)) _ _ (λ t z. eqb-false (reading b).number 0 (not-true _ t) z) e in
    let p2 = accepted-else number (not ((formed b d).number == 0)) _ _ (λ t z. eqb-false (formed b d).number 0 (not-true _ t) z) p1.1 in
    let p3 = counted-done b w o _ p2.1 in
    let p4 = accepted-else number (not (length f == 80)) _ _ (λ t z. omega arith) p3.after in
    record {
      readable = eqb-true _ _ (not-false _ p1.0);
      well-formed = eqb-true _ _ (not-false _ p2.0);
      incoming-words = p3.incoming-words;
      outgoing-room = p3.outgoing-room;
      registers = eqb-true _ _ (not-false _ p4.0);
    }

-- ---- the answers, case by case

module _ (b w o : List ℕ) (next : Ran) where
  pub counted-incoming : (length w ≢ incoming b) → counted b w o next ≡ refused 21 0 0
  unfolding counted
  counted-incoming n = rw (ne_eqb (length w) (incoming b) n)

  pub counted-outgoing : length w ≡ incoming b → (length o ≢ outgoing b) → counted b w o next ≡ refused 22 0 0
  unfolding counted
  counted-outgoing e n = rw (eq-eqb (length w) (incoming b) e, ne_eqb (length o) (outgoing b) n)

  pub counted-after : length w ≡ incoming b → length o ≡ outgoing b → counted b w o next ≡ next
  unfolding counted
  counted-after e z = rw (eq-eqb (length w) (incoming b) e, eq-eqb (length o) (outgoing b) z)

module _ (b w o : List ℕ) where
  pub block-unread : ((reading b).number ≢ 0) → ran_block b w o ≡ refused (reading b).number (reading b).first (reading b).second
  unfolding ran_block
  block-unread n = rw (ne_eqb (reading b).number 0 n)

  pub block_read : (reading b).number ≡ 0 → ran_block b w o ≡ counted b w o (done (outgoing b))
  unfolding ran_block
  block_read e = rw (eq-eqb (reading b).number 0 e)

module _ (b d w o f : List ℕ) where
  pub datapath-unread : ((reading b).number ≢ 0) → ran_datapath b d w o f ≡ refused (reading b).number (reading b).first (reading b).second
  unfolding ran_datapath
  datapath-unread n = rw (ne_eqb (reading b).number 0 n)

  pub datapath-misformed : (reading b).number ≡ 0 → ((form_of b d).number ≢ 0)
      → ran_datapath b d w o f ≡ refused (form_of b d).number (form_of b d).place (form_of b d).place
  unfolding ran_datapath
  datapath-misformed e n =
      let z = form-of-read b d e in
      let m : (formed b d).number ≡ 0 → ⊥ = rw z at n in
      rw (z, eq-eqb (reading b).number 0 e, ne_eqb (formed b d).number 0 m)

  pub datapath-formed : (reading b).number ≡ 0 → (form_of b d).number ≡ 0
      → ran_datapath b d w o f ≡ counted b w o (registered (length f) (outgoing b))
  unfolding ran_datapath
  datapath-formed e n =
      let m : (formed b d).number ≡ 0 = rw (form-of-read b d e) at n in
      rw (eq-eqb (reading b).number 0 e, eq-eqb (formed b d).number 0 m)

-- ---- the code's refusals in these numbers

pub is_read : (b : List ℕ) {r : Reading} → r ≡ reading b → r.number ≡ 0 → (reading b).number ≡ 0
is_read b e z = sym (ap (λ (x : Reading). x.number) e) ∙ z

pub is_formed : (b d : List ℕ) {r : Formed} → r ≡ form_of b d → r.number ≡ 0 → (form_of b d).number ≡ 0
is_formed b d e z = sym (ap (λ (x : Formed). x.number) e) ∙ z

-- what lets everything through has met the counts
pub met : (b w o : List ℕ) → ((next : Ran) → next ≡ counted b w o next) → Counted b w o (done 0)
met b w o h = counted-done b w o (done 0) (sym (ap number (h (done 0))))

module _ (b w o : List ℕ) where
  pub unread-block : (e : Refusal) → read_as (Err e) ≡ reading b → ran_as (Err e) ≡ ran_block b w o
  unread-block e h = ap (λ (r : Reading). refused r.number r.first r.second) h ∙ sym (block-unread b w o (λ q. not-zero e.reason (ap (λ (r : Reading). r.number) h ∙ q)))

  pub counted-block : (reading b).number ≡ 0 → {next : Ran} → next ≡ counted b w o (done (outgoing b)) → next ≡ ran_block b w o
  counted-block e h = h ∙ sym (block_read b w o e)

module _ (b d w o f : List ℕ) where
  pub unread-datapath : (e : Refusal) → read_as (Err e) ≡ reading b → ran_as (Err e) ≡ ran_datapath b d w o f
  unread-datapath e h = ap (λ (r : Reading). refused r.number r.first r.second) h ∙ sym (datapath-unread b d w o f (λ q. not-zero e.reason (ap (λ (r : Reading). r.number) h ∙ q)))

  module _ (e : (reading b).number ≡ 0) where
    pub misformed-datapath : (g : Fault) → formed_as (Err g) ≡ form_of b d → ran_as (Err (twice g)) ≡ ran_datapath b d w o f
    misformed-datapath g h = ap (λ (r : Formed). refused r.number r.place r.place) h ∙ sym (datapath-misformed b d w o f e (λ q. not-zero g.reason (ap (λ (r : Formed). r.number) h ∙ q)))

    pub counted-datapath : (form_of b d).number ≡ 0 → {next : Ran} → next ≡ counted b w o (registered (length f) (outgoing b)) → next ≡ ran_datapath b d w o f
    counted-datapath g h = h ∙ sym (datapath-formed b d w o f e g)

-- ---- refused: not one word changed

pub block_refused : (b w o : List ℕ) → ((ran_block b w o).number ≢ 0) → outgoing_after_block b w o ≡ o
unfolding outgoing_after_block
block_refused b w o n = cond-false _ o (ne_eqb (ran_block b w o).number 0 n)

pub datapath-refused : (b d w o f : List ℕ) → ((ran_datapath b d w o f).number ≢ 0)
    → (outgoing_after_datapath b d w o f ≡ o) × (registers_after b d w o f ≡ f)
unfolding outgoing_after_datapath registers_after
datapath-refused b d w o f n =
    let e = ne_eqb (ran_datapath b d w o f).number 0 n in
    (cond-false _ o e, cond-false _ f e)

-- ---- few words go out

pub room-few : (b : List ℕ) → (reading b).number ≡ 0 → outgoing b ≤ 80
room-few b e = let S = shows b e in omega (arith, rows_few (table_of b) b S, S.outgoing-are)

-- ---- the promises, met by a refusal and by a run that is done

module _ (b w o : List ℕ) (r : Ran) (e : r ≡ ran_block b w o) where
  pub block-stopped : (r.number ≢ 0) → RunsBlock b w o r o
  block-stopped n = record { answer = e; outgoing = sym (block_refused b w o (λ q. n (rw e q))) }

  pub block-ended : (x : List ℕ) → r.number ≡ 0 → x ≡ sent_words b w → RunsBlock b w o r x
  unfolding outgoing_after_block
  block-ended x z h = record { answer = e; outgoing = h ∙ sym (cond-true _ o (eq-eqb (ran_block b w o).number 0 (rw e at z))) }

module _ (b d w o f : List ℕ) (r : Ran) (e : r ≡ ran_datapath b d w o f) where
  pub datapath-stopped : (r.number ≢ 0) → RunsDatapath b d w o f r o f
  datapath-stopped n =
      let z = datapath-refused b d w o f (λ q. n (rw e q)) in
      record { answer = e; outgoing = sym z.0; registers = sym z.1 }

  pub datapath-ended : (x y : List ℕ) → r.number ≡ 0 → x ≡ taken_words b d w f → y ≡ file_at b d w f (last_step b) → RunsDatapath b d w o f r x y
  unfolding outgoing_after_datapath registers_after
  datapath-ended x y z h g =
      let t = eq-eqb (ran_datapath b d w o f).number 0 (rw e at z) in
      record { answer = e; outgoing = h ∙ sym (cond-true _ o t); registers = g ∙ sym (cond-true _ f t) }

-- ---- one answer in these numbers is one answer

pub one-ran : (x y : Result ℕ Refusal) → ran_as x ≡ ran_as y → x ≡ y
one-ran (Ok v) (Ok w) e = ap Ok (ap (λ (z : Ran). z.written) e)
one-ran (Ok v) (Err f) e = absurd (not-zero f.reason (sym (ap number e)))
one-ran (Err f) (Ok w) e = absurd (not-zero f.reason (ap number e))
one-ran (Err f) (Err g) e = ap Err (one-refusal f g (ap number e) (ap (λ (z : Ran). z.first) e) (ap (λ (z : Ran). z.second) e))
