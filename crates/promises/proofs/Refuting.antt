-- The promises refuse false histories and states.
use Rattle.std.proofs.Common.{◌≡◌, true, false, cond, List, [], ◌∷◌, ◌++◌, Ok, sym, ap, ◌∙◌, subst, arith}
use Rattle.std.proofs.lemmas.Option.{same_Some}
use Rattle.std.proofs.lemmas.Bool.Decides.{nat_tests}
use Rattle.std.proofs.lemmas.Bool.{both_ways}
use Rattle.std.proofs.lemmas.List.Sums.{sum_by-cons}
use Rattle.protocol.specs.Rules.{Rules}
use Rattle.tagged.specs.Rule.{met}
use Rattle.tagged.specs.declared.rule.Served.{Served}
use Rattle.promises.specs.Board.{Entry}
use Rattle.promises.specs.Calls.{settle}
use Rattle.promises.specs.OneMemory.{decide, is_done, is_answer, feed, one_memory}
use Rattle.promises.specs.Promises.{EveryEntry, InIssueOrder}
use Rattle.promises.specs.Refuted.{FalseIsRefused, PromisesTellTrueFromFalse}
use Rattle.promises.specs.Runs.{Opening}
use Rattle.promises.proofs.Counting.{one}
use Rattle.promises.proofs.Deciding.{when_answered}
use Rattle.promises.proofs.Example.{example_ran}

-- what holds of every entry holds of each
among : (P : Entry → Type 0) (es : List Entry) (e : Entry) (fs : List Entry) → EveryEntry P (es ++ e ∷ fs) → P e
among P [] e fs h = h.0
among P (x ∷ es) e fs h = among P es e fs h.1

refuted : (r : Rules) (o : Opening) → FalseIsRefused r o
refuted r o = record {
  altered_answer = λ slip a b h s answers number outcome other kept t broken.
      let m = one_memory o.memory h in
      let x = when_answered (is_answer a.outcome) answers kept.all_speak_true.0 in
      let y = when_answered (is_answer b.outcome) (ap is_answer outcome ∙ answers) broken.all_speak_true.0 in
      let fed : feed m (settle slip (Ok b)) ≡ feed m (settle slip (Ok a)) = λ i. cond (is_done (outcome i)) (decide m (number i)) m in
      let same : y.given ≡ x.given = same_Some _ _ (sym y.is ∙ (λ i. (fed i).gave (number i)) ∙ x.is) in
      other (y.value ∙ ap (λ (z : Served). z.value) same ∙ sym x.value);
  answered_twice = λ k h often s kept. omega (arith, often, kept.requests_are_accounted k, kept.numbers_are_given_once k);
  number_given_twice = λ k h often s kept. omega (arith, often, kept.numbers_are_given_once k);
  withdrawn_and_answered = λ k h gone often s kept. omega (arith, gone, often, kept.requests_are_accounted k, kept.numbers_are_given_once k);
  look_shows_another = λ w x y h other s kept. grind (arith, nat_tests);
  tally_off = λ x h. (
    (λ off s kept. off kept.tallies_are_true.0.accepted),
    (λ off s kept. off kept.tallies_are_true.0.done),
    (λ off s kept. off kept.tallies_are_true.0.discarded),
    (λ off s kept. off kept.tallies_are_true.0.trapped),
    (λ off s kept. off kept.tallies_are_true.0.withdrawn),
    (λ off s kept. off kept.tallies_are_true.0.sum),
  );
  decisions_swapped = λ j k ks h decided place less s kept.
      let order = subst (InIssueOrder (one_memory o.memory h)) decided kept.decided_in_issue_order in
      let earlier = order.0 k (grind (arith, nat_tests, sum_by-cons (one k) k ks)) place in
      omega (arith, less, earlier);
  two_writers = λ c d n h s other first second kept. grind (arith, nat_tests);
  unequal_copies = λ c d n h s first second other kept. other (kept.copies_are_equal c d n first second);
  ready_sleeper = λ c e older younger h s list asleep ready kept.
      let m = one_memory o.memory h in
      both_ways (met e.operation (m.word e.word).state) (among (λ f. f.asleep ≡ true → met f.operation (m.word f.word).state ≡ false) older e younger (subst (EveryEntry (λ f. f.asleep ≡ true → met f.operation (m.word f.word).state ≡ false)) list (kept.nobody_sleeps_through c)) asleep) ready;
}

pub tells_true_from_false : PromisesTellTrueFromFalse
tells_true_from_false = (example_ran, refuted)
