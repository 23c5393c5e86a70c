-- A word of a kept copy is changed where it stands: by an issue that answers, or by a settle of kind 0.
use Rattle.std.proofs.Common.{◌≡◌, ℕ, ◌%◌, ◌<◌, Bool, true, false, cond, sym, ap, ◌∙◌, ⊎_elim, arith}
use Rattle.std.proofs.lemmas.Bool.Decides.{nat_tests}
use Rattle.std.proofs.lemmas.Bool.{cases_eq, cases_Bool, and_left}
use Rattle.protocol.specs.Rules.{Rules, Lawful}
use Rattle.tagged.specs.declared.words.Word.{Word}
use Rattle.promises.specs.Board.{Content, word_in, with_word_in, Frame, State, line_of, frame_of}
use Rattle.promises.specs.Copies.{copy, keeps, owes}
use Rattle.promises.specs.Steps.{updated_frame}
use Rattle.promises.specs.OneMemory.{line_by_words}
use Rattle.promises.proofs.Contents.{changed, changed_content, changed_other, updated_back}
use Rattle.promises.proofs.Frames.{kept_of, keeps_by}
use Rattle.promises.proofs.Copies.{claiming, Copies, one_line, owes_same}
use Rattle.promises.proofs.Putting.{Put, put_copies}

-- a frame with the own_claim code for line n owes it
pub claim_owes : (r : Rules) → Lawful r → (after : State) (c n : ℕ) (content : Content) → c < 8 → copy after c n ≡ record { code = r.own_claim; line = n; content = content } → owes r after c n ≡ true
claim_owes r law after c n content core e =
    let kept = keeps_by r after c n (record { core = core; line = grind arith; code = grind (arith, law.own_kept) }) in
    grind (arith, law.own_owing)

module _ (r : Rules) (law : Lawful r) (T : ℕ → Word) (s : State) (c w : ℕ) (g : Word → Word) (claim : Bool) (after : State) (was : Copies r T s) (kept : keeps r s c (line_of w) ≡ true) (sole : claim ≡ true → r.sole (copy s c (line_of w)).code ≡ true) (stays : claim ≡ false → g (T w) ≡ T w) where
  abbrev n : ℕ
  n = line_of w

  abbrev own : Frame
  own = copy s c n

  abbrev code : ℕ
  code = cond claim r.own_claim own.code

  abbrev content : Content
  content = with_word_in own.content w (g (word_in own.content w))

  -- the frame has the changed line, with the own_claim code after a claim; memory and the line being claimed stay
  module _ (filled : (d j : ℕ) → after.frame d j ≡ updated_frame s.frame c (frame_of n) (record { code = code; line = own.line; content = content }) d j) (memory : (m : ℕ) → after.memory m ≡ s.memory m) (bus : (m : ℕ) → claiming after.bus m ≡ false → claiming s.bus m ≡ false) where
    frames : (d j : ℕ) → after.frame d j ≡ updated_frame s.frame c (frame_of n) (record { code = code; line = n; content = content }) d j
    frames d j = grind (arith, filled d j, kept_of r s c n kept)

    own_frame : copy after c n ≡ record { code = code; line = n; content = content }
    own_frame = grind (arith, nat_tests, frames c (frame_of n))

    other_frame : (d m : ℕ) → ((d ≡ c) × (m % 16 ≡ n % 16) → ⊥) → copy after d m ≡ copy s d m
    other_frame d m apart = grind (arith, nat_tests, frames d (m % 16))

    -- the own copy owes as before, unless it was claimed
    own_owes : claim ≡ false → owes r s c n ≡ owes r after c n
    own_owes e =
        let own = kept_of r s c n kept in
        let still = keeps_by r after c n (record { core = own.core; line = grind (arith, own_frame); code = grind (arith, own_frame, own.code) }) in
        grind (arith, own_frame)

    true_memory : (m : ℕ) → ((d : ℕ) → owes r after d m ≡ false) → claiming after.bus m ≡ false → after.memory m ≡ line_by_words (changed T g w) m
    true_memory m none quiet = memory m ∙ ⊎_elim here elsewhere (cases_eq m n)
      where
        here : m ≡ n → s.memory m ≡ line_by_words (changed T g w) m
        here e =
            ⊎_elim
            (λ t. grind (arith, own_frame, none c, claim_owes r law after c n content (kept_of r s c n kept).core))
            (λ f. was.true_memory m (λ d. before f d e) (bus m quiet) ∙ ap (λ X. line_by_words X m) (sym (updated_back T w _ (stays f))))
            (cases_Bool claim)
          where
            before : claim ≡ false → (d : ℕ) → m ≡ n → owes r s d m ≡ false
            before f d e = ⊎_elim (λ same. cc (own_owes f, none c)) (λ ne. sym (owes_same r after s d m (other_frame d m (λ both. ne both.0))) ∙ none d) (cases_eq d c)

        elsewhere : (m ≡ n → ⊥) → s.memory m ≡ line_by_words (changed T g w) m
        elsewhere ne = was.true_memory m before (bus m quiet) ∙ sym (changed_other T g w m ne)
          where
            before : (d : ℕ) → owes r s d m ≡ false
            before d =
                ⊎_elim
                (λ k. sym (owes_same r after s d m (other_frame d m (λ both. ne (one_line r s c m n (ap (λ x. keeps r s x m) (sym both.0) ∙ k) kept both.1)))) ∙ none d)
                (λ no_copy. and_left (keeps r s d m) _ no_copy)
                (cases_Bool (keeps r s d m))

    -- a claim is made on the only copy
    alone_claim : claim ≡ true → (d : ℕ) → keeps r s d n ≡ true → d ≡ c
    alone_claim t d k = grind (arith, nat_tests)

    put : Put r T (changed T g w) s c n code content after
    put = record {
      frames = frames;
      code_fits = grind (arith, nat_tests);
      true_content = changed_content T g w own.content (was.true_copies c n kept);
      other_lines = changed_other T g w;
      shared_line = λ d ne k. grind (arith, nat_tests);
      only = λ e d ne k. grind (arith, alone_claim, was.alone c d n, kept);
      no_owner = λ d ne owner. ne (sym (was.alone d c n owner kept));
      true_memory = true_memory;
    }

    pub changed_in_place : Copies r (changed T g w) after
    changed_in_place = put_copies r T (changed T g w) s c n code content after was put
