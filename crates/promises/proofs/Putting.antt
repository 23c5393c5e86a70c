-- A line is put into a frame, perhaps with a changed word.
use Rattle.std.proofs.lemmas.Bool.Decides.{nat_tests}
use Rattle.std.proofs.Common.{◌≡◌, ℕ, ◌%◌, ◌<◌, true, false, ◌⊎◌, sym, ap, ◌∙◌, arith}
use Rattle.protocol.specs.Rules.{Rules}
use Rattle.tagged.specs.declared.words.Word.{Word}
use Rattle.promises.specs.Board.{Content, Frame, State, frame_of}
use Rattle.promises.specs.Copies.{copy, keeps, owns, owes}
use Rattle.promises.specs.Steps.{updated_frame}
use Rattle.promises.specs.OneMemory.{line_by_words}
use Rattle.promises.specs.Promises.{WritersAreAlone}
use Rattle.promises.proofs.Frames.{kept_of, keeps_same, frame_cases}
use Rattle.promises.proofs.Copies.{claiming, Copies, owns_same}

-- core c's frame for line n now holds it with this code and content; T' are the words afterwards
pub record Put (r : Rules) (T T' : ℕ → Word) (s : State) (c n code : ℕ) (content : Content) (after : State) : Type 0 where
  pub frames : (d j : ℕ) → after.frame d j ≡ updated_frame s.frame c (frame_of n) (record { code = code; line = n; content = content }) d j
  pub code_fits : code < 256
  pub true_content : content ≡ line_by_words T' n
  -- other lines stay, and line n too if another cache keeps it
  pub other_lines : (m : ℕ) → (m ≡ n → ⊥) → line_by_words T' m ≡ line_by_words T m
  pub shared_line : (d : ℕ) → (d ≡ c → ⊥) → keeps r s d n ≡ true → line_by_words T' n ≡ line_by_words T n
  -- a sole copy is the only one, and no other is sole
  pub only : r.sole code ≡ true → (d : ℕ) → (d ≡ c → ⊥) → keeps r s d n ≡ true → ⊥
  pub no_owner : (d : ℕ) → (d ≡ c → ⊥) → owns r s d n ≡ true → ⊥
  pub true_memory : (m : ℕ) → ((d : ℕ) → owes r after d m ≡ false) → claiming after.bus m ≡ false → after.memory m ≡ line_by_words T' m

module _ (r : Rules) (T T' : ℕ → Word) (s : State) (c n code : ℕ) (content : Content) (after : State) (was : Copies r T s) (put : Put r T T' s c n code content after) where
  abbrev new : Frame
  new = record { code = code; line = n; content = content }

  -- a frame is the one that was filled, or stayed
  pub put_cases : (d m : ℕ) → ((d ≡ c) × (m % 16 ≡ n % 16) × (copy after d m ≡ new)) ⊎ (((d ≡ c) × (m % 16 ≡ n % 16) → ⊥) × (copy after d m ≡ copy s d m))
  put_cases d m = grind (arith, put.frames d (m % 16), frame_cases s.frame c (frame_of n) new d (m % 16))

  -- what the filled frame keeps is line n
  new_line : (d m : ℕ) → copy after d m ≡ new → keeps r after d m ≡ true → m ≡ n
  new_line d m e k = sym (kept_of r after d m k).line ∙ ap (λ (f : Frame). f.line) e

  kept_before : (d m : ℕ) → copy after d m ≡ copy s d m → keeps r after d m ≡ true → keeps r s d m ≡ true
  kept_before d m e k = sym (keeps_same r after s d m e) ∙ k

  put_true : (d m : ℕ) → keeps r after d m ≡ true → (copy after d m).content ≡ line_by_words T' m
  put_true d m k = grind (arith, put_cases d m, put.true_content, new_line d m, kept_before d m, was.true_copies d m, put.shared_line d, put.other_lines m)

  put_alone : WritersAreAlone r after
  put_alone d e m own k = grind (arith, put_cases d m, put_cases e m, new_line d m, new_line e m, kept_before d m, kept_before e m, put.only, put.no_owner d, owns_same r after s d m, was.alone d e m)

  pub put_copies : Copies r T' after
  put_copies = record {
    codes = λ d i. grind (arith, nat_tests);
    placed = λ d i k. grind (arith, put.frames d i, frame_cases s.frame c (frame_of n) new d i, was.placed d i);
    true_copies = put_true;
    alone = put_alone;
    true_memory = put.true_memory;
  }
