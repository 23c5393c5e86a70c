-- A snoop keeps copies and memory true, and what it finds is true.
use Rattle.std.proofs.Common.{◌≡◌, ℕ, ◌%◌, ◌<◌, Bool, true, false, not, ◌&&◌, ◌⊎◌, sym, refl, ap, ◌∙◌, ⊎_elim, arith}
use Rattle.std.proofs.lemmas.Bool.Decides.{nat_tests}
use Rattle.std.proofs.lemmas.Bool.{cond_both, false_from_ne_true, cases_eq, cases_Bool, eq-eqb, not-true, and_parts, and_from, and_left, and_right, both_ways, cond-true, cond-false}
use Rattle.protocol.specs.Rules.{Rules, Lawful}
use Rattle.tagged.specs.Operations.{claims}
use Rattle.tagged.specs.declared.words.Word.{Word}
use Rattle.promises.specs.Board.{Content, Frame, Tenure, claimed, snooped, State, line_of}
use Rattle.promises.specs.Copies.{copy, keeps, owes, lowest, any_core, supplied}
use Rattle.promises.specs.Steps.{updated, fetches, snoop_met, snoop_found, moved, pays, snoop_state}
use Rattle.promises.specs.OneMemory.{line_by_words}
use Rattle.promises.proofs.Contents.{updated_same, updated_other}
use Rattle.promises.proofs.Frames.{kept_of, keeps_by, keeps_same, lowest_passes, no_core_passes}
use Rattle.promises.proofs.Copies.{claiming, Copies, Fewer, fewer_true, fewer_alone, one_line, owes_same, owns_same, owns_keeps}

module _ (r : Rules) (law : Lawful r) (T : ℕ → Word) (s : State) (t : Tenure) (was : Copies r T s) where
  abbrev n : ℕ
  n = line_of t.entry.word

  abbrev after : State
  after = snoop_state r s t

  -- the frame of core d for line m heard of the fetch
  record Heard (d m : ℕ) : Type 0 where
    pub fetched : fetches r s t ≡ true
    pub place : m % 16 ≡ n % 16
    pub other : d ≡ t.core → ⊥
    pub kept : keeps r s d n ≡ true
    pub frame : copy after d m ≡ moved r s t (copy s d m)

  record Unheard (d m : ℕ) : Type 0 where
    pub frame : copy after d m ≡ copy s d m
    pub why : fetches r s t ≡ true → m % 16 ≡ n % 16 → (d ≡ t.core → ⊥) → keeps r s d n ≡ true → ⊥

  heard_or_not : (d m : ℕ) → Heard d m ⊎ Unheard d m
  heard_or_not d m = grind (arith, nat_tests)

  -- a frame that heard holds line n, so what it keeps afterwards is line n
  heard_line : (d m : ℕ) → Heard d m → (copy after d m).line ≡ m → m ≡ n
  heard_line d m h e = grind (arith, h.place, h.frame, kept_of r s d n h.kept)

  -- after a claim it keeps nothing
  heard_claim : (d m : ℕ) → Heard d m → claims t.entry.operation ≡ true → keeps r after d m ≡ true → ⊥
  heard_claim d m h c k =
      both_ways (r.kept (r.after_claim (copy s d m).code)) (law.claim_not_kept _ (was.codes d (m % 16)))
      (sym (ap r.kept (ap (λ (f : Frame). f.code) h.frame ∙ cond-true _ _ _ c)) ∙ (kept_of r after d m k).code)

  read_code : (d m : ℕ) → Heard d m → claims t.entry.operation ≡ false → (copy after d m).code ≡ r.after_read (copy s d m).code
  read_code d m h c = ap (λ (f : Frame). f.code) h.frame ∙ cond-false _ _ _ c

  heard_kept : (d m : ℕ) → Heard d m → keeps r after d m ≡ true → keeps r s d m ≡ true
  heard_kept d m h k = ap (keeps r s d) (heard_line d m h (kept_of r after d m k).line) ∙ h.kept

  pub snoop_fewer : Fewer r s (snoop_state r s t)
  snoop_fewer = record {
    kept = λ d m k. grind (arith, heard_or_not d m, heard_kept d m, keeps_same r after s d m);
    content = λ d m k. grind (arith, heard_or_not d m);
    sole = λ d m own.
        ⊎_elim
        (λ h. absurd (⊎_elim (λ c. heard_claim d m h c (owns_keeps r after d m own)) (λ c. both_ways (r.sole (r.after_read (copy s d m).code)) (law.read_not_sole _ (was.codes d (m % 16))) (sym (ap r.sole (read_code d m h c)) ∙ (and_parts (keeps r after d m) _ own).1)) (cases_Bool (claims t.entry.operation))))
        (λ u. sym (owns_same r after s d m u.frame) ∙ own)
        (heard_or_not d m);
  }

  -- another's copy of the line that is fetched is not sole afterwards, and not kept after a claim
  pub heard_not_sole : (d : ℕ) → fetches r s t ≡ true → claims t.entry.operation ≡ false → (d ≡ t.core → ⊥) → keeps r s d (line_of t.entry.word) ≡ true → r.sole (copy (snoop_state r s t) d (line_of t.entry.word)).code ≡ true → ⊥
  heard_not_sole d f c ne k e = grind (arith, heard_or_not d n, law.read_not_sole, was.codes d (n % 16), read_code d n)

  pub heard_not_kept : (d : ℕ) → fetches r s t ≡ true → claims t.entry.operation ≡ true → (d ≡ t.core → ⊥) → keeps r s d (line_of t.entry.word) ≡ true → keeps r (snoop_state r s t) d (line_of t.entry.word) ≡ true → ⊥
  heard_not_kept d f c ne k e = grind (arith, heard_or_not d n, heard_claim d n)

  snoop_codes : (d i : ℕ) → (after.frame d i).code < 256
  snoop_codes d i =
      cond_both _ (moved r s t (s.frame d i)) (s.frame d i) (λ (f : Frame). f.code < 256)
      (λ _. cond_both (claims t.entry.operation) _ _ (λ k. k < 256) (λ _. law.claim_fits _ (was.codes d i)) (λ _. law.read_fits _ (was.codes d i)))
      (λ _. was.codes d i)

  snoop_placed : (d i : ℕ) → r.kept (after.frame d i).code ≡ true → (after.frame d i).line % 16 ≡ i
  snoop_placed d i =
      cond_both _ (moved r s t (s.frame d i)) (s.frame d i) (λ (f : Frame). r.kept f.code ≡ true → f.line % 16 ≡ i)
      (λ _ k. was.placed d i (grind (arith, law.claim_not_kept, law.read_kept, was.codes d i)))
      (λ _. was.placed d i)

  -- kind 1 leaves a read whose own cache does not keep the line
  pub read_own : fetches r s t ≡ true → claims t.entry.operation ≡ false → keeps r s t.core (line_of t.entry.word) ≡ false
  read_own f c = grind arith

  -- a copy that owed and was not dropped or written still owes
  owed_stays : (d m : ℕ) → ((c : ℕ) → owes r after c m ≡ false) → (fetches r s t ≡ true → m ≡ n → (claims t.entry.operation ≡ false) × (pays r s t d ≡ false)) → owes r s d m ≡ false
  owed_stays d m none kind =
      ⊎_elim
      (λ h. ⊎_elim (λ k. heard_owes h k) (λ no_copy. and_left (keeps r s d m) _ no_copy) (cases_Bool (keeps r s d m)))
      (λ u. sym (owes_same r after s d m u.frame) ∙ none d)
      (heard_or_not d m)
    where
      heard_owes : Heard d m → keeps r s d m ≡ true → owes r s d m ≡ false
      heard_owes h k =
          let same : m ≡ n = one_line r s d m n k h.kept h.place in
          let own = kept_of r s d m k in
          let stays : r.kept (copy after d m).code ≡ true → keeps r after d m ≡ true = λ e. keeps_by r after d m (record { core = own.core; line = grind (arith, h.frame, own.line); code = e }) in
          let told = kind h.fetched same in
          let code = read_code d m h told.0 in
          ⊎_elim
          (λ e.
          let owes_after : r.owing (r.after_read (copy s d m).code) ≡ true = grind (arith, nat_tests, told.1, h.place, h.kept, h.other) in
          let kept_after = stays (ap r.kept code ∙ law.owing_kept _ (law.read_fits _ (was.codes d (m % 16))) owes_after) in
          absurd (both_ways (owes r after d m) (none d) (and_from (keeps r after d m) _ kept_after (ap r.owing code ∙ owes_after))))
          (λ e. and_right (keeps r s d m) _ e)
          (cases_Bool (r.owing (copy s d m).code))

  payer_keeps : (d : ℕ) → pays r s t d ≡ true → keeps r s d n ≡ true
  payer_keeps d p = grind arith

  -- the bus was granted, so no line was being claimed
  snoop_memory : ((m : ℕ) → claiming s.bus m ≡ false) → (m : ℕ) → ((c : ℕ) → owes r after c m ≡ false) → claiming after.bus m ≡ false → after.memory m ≡ line_by_words T m
  snoop_memory quiet m none unclaimed = ⊎_elim here elsewhere (cases_eq m n)
    where
      paid : Bool
      paid = fetches r s t && (not (claims t.entry.operation) && any_core (pays r s t))

      written : ℕ → Content
      written = updated s.memory n (copy s (lowest (pays r s t)) n).content

      -- a claim that fetches travels as one
      not_claim : m ≡ n → fetches r s t ≡ true → claims t.entry.operation ≡ false
      not_claim e f =
          false_from_ne_true _
          (λ c.
          let p = and_parts (snoop_met r s t) _ f in
          let found : snoop_found r s t ≡ claimed (supplied r s n (s.memory n)) = cond-true _ _ _ p.0 ∙ cond-false _ _ _ (not-true _ p.1) ∙ cond-true _ _ _ c in
          both_ways (claiming after.bus m) unclaimed (ap (λ x. claiming (snooped t x) m) found ∙ eq-eqb n m (sym e)))

      here : m ≡ n → after.memory m ≡ line_by_words T m
      here e =
          cond_both paid written s.memory (λ (f : ℕ → Content). f m ≡ line_by_words T m)
          (λ yes_paid.
          let low = lowest_passes (pays r s t) (and_parts (not (claims t.entry.operation)) _ (and_parts (fetches r s t) _ yes_paid).1).1 in
          ap written e ∙ updated_same s.memory n _ ∙ was.true_copies _ n (payer_keeps _ low.0) ∙ ap (line_by_words T) (sym e))
          (λ unpaid.
          was.true_memory m
          (λ d.
          owed_stays d m none
          (λ f same.
          let c = not_claim e f in
          let nobody : any_core (pays r s t) ≡ false = grind arith in
          (c, no_core_passes (pays r s t) nobody (λ d p. (kept_of r s d n (payer_keeps d p)).core) d)))
          (quiet m))

      elsewhere : (m ≡ n → ⊥) → after.memory m ≡ line_by_words T m
      elsewhere ne =
          cond_both paid written s.memory (λ (f : ℕ → Content). f m ≡ s.memory m) (λ _. updated_other s.memory n m _ ne) (λ _. refl)
          ∙ was.true_memory m (λ d. owed_stays d m none (λ f same. absurd (ne same))) (quiet m)

  pub snoop_copies : ((m : ℕ) → claiming s.bus m ≡ false) → Copies r T (snoop_state r s t)
  snoop_copies quiet = record {
    codes = snoop_codes;
    placed = snoop_placed;
    true_copies = fewer_true r T s after was snoop_fewer;
    alone = fewer_alone r T s after was snoop_fewer;
    true_memory = snoop_memory quiet;
  }
