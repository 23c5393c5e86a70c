use Rattle.std.proofs.Common.{◌≡◌, ◌<◌, [], ◌++◌, length, drop, replicate, sym, ap, ◌∙◌, append-nil, arith, below_more}
use Rattle.std.proofs.lemmas.Grind.{common_steps}
use Rattle.std.proofs.lemmas.List.{length-replicate}
use Rattle.tagged.specs.Words.{blank}
use Rattle.memory.specs.Pictures.{picture, picture_length, lines_at}
use Rattle.memory.proofs.Places.{lines_back, picture_sound}
use Rattle.memory.proofs.Writing.{begun, length_begun, begun_more, line_room, no_line, behind_picture}
use Rattle.memory.proofs.pictures.write_picture.Goals as goal
use Rattle.memory.proofs.pictures.write_picture.Goals.{In_ok-length}

-- starting the picture left the bytes behind it
kept : (c : In_ok-length) → drop c.in_ok-length.length c.start_picture.new.buffer ≡ drop c.in_ok-length.length c.args.buffer.now
kept c =
    let told = c.in_ok-length.ensures in
    behind_picture _ _ _ _ told.2 (told.0 ∙ ap picture_length (sym (length-replicate c.in-Ok.count blank)))

pub loop-n-init : goal.loop-n-init
loop-n-init c =
    let blanks : replicate c.in-Ok.count blank ≡ begun 0 c.args.lines.now = ap (λ n. replicate n blank) c.in-Ok.ensures.1 ∙ grind (arith, common_steps) in
    (c.in_ok-length.ensures.2 ∙ (λ i. picture (blanks i) ++ sym (kept c) i), λ m h. absurd (omega arith))

pub loop-n-preserved : goal.loop-n-preserved
loop-n-preserved c =
    let old = c.loop-n.invariant.0 in
    let count = length_begun c.loop-n.n c.args.lines.now ∙ sym c.in-Ok.ensures.1 in
    let within : c.loop-n.n < c.in-Ok.count = omega (arith, c.in-Ok.ensures.1) in (
      c.put_line.ensures.picture _ _ (count, old) ∙ ap (λ ls. picture ls ++ drop c.in_ok-length.length c.start_picture.new.buffer) (begun_more c.loop-n.n c.args.lines.now no_line c.loop-n-test.true),
      below_more _ _ c.loop-n.invariant.1 (c.put_line.ensures.puts within (line_room _ _ _ c.loop-n.n no_line _ [] count old)).1,
    )

pub returns : goal.returns
returns c =
    let told = c.in_ok-length.ensures in
    let ls = c.args.lines.now in
    let whole : begun c.loop-n.n ls ≡ ls = grind (arith, common_steps) in
    record {
      cases = (told.0 ∙ ap picture_length c.in-Ok.ensures.1, c.loop-n.invariant.0 ∙ (λ i. picture (whole i) ++ kept (goal.at.returns c).In_ok-length i));
      reads_back = (
        picture_sound ls (omega (arith, told.1.some, c.in-Ok.ensures.1)) (omega (arith, told.1.few, c.in-Ok.ensures.1)),
        ap (lines_at (length ls)) (sym (append-nil (picture ls))) ∙ lines_back ls [] no_line (λ m h. c.loop-n.invariant.1 m (omega arith)),
      );
    }
