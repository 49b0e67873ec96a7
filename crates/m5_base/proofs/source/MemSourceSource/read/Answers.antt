use Rattle.std.proofs.Common.{◌≡◌, ◌+◌, length, take, drop, arith, ap, sym, ◌∙◌}
use Rattle.std.proofs.lemmas.List.{drop_all, length-drop}
use Rattle.m5_base.proofs.Pieces.{given}
use Rattle.m5_base.specs.Held.{Supply}
use Rattle.m5_base.proofs.source.MemSourceSource.read.Goals as goal

pub returns-clause-bytes : goal.returns-clause-bytes
returns-clause-bytes c =
    let bytes = c.self.inside.bytes.items in
    let p = c.self.inside.position in
    let n = c.copy_front-count.result in
    let back : c.split_at.result.1.now ≡ drop p bytes = c.split_at.ensures.back ∙ ap (drop p) c.deref-2.ensures.value in
    let left : c.args.self.now.left ≡ drop p bytes = sym (ap (λ (s : Supply). s.left) c.self.view_is) in
    let size = length-drop p bytes in (
      left ∙ given bytes c.copy_front-count.new.into p n (c.copy_front-count.ensures.copied ∙ ap (take n) back),
      λ none room. drop_all (p + n) bytes (omega (arith, c.copy_front-count.ensures.count, size, ap length back, c.copy_front-count.ensures.same, none, room)),
    )
