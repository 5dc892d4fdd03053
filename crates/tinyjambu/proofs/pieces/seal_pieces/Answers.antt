use Rattle.std.proofs.Common.{◌≡◌, ℕ, ◌+◌, List, ◌++◌, length, sym, ap, ◌∙◌, ap₂, arith, take-append-drop}
use Rattle.tinyjambu.specs.Answers.{sealed_out, written}
use Rattle.engine.specs.Bytes.{word_bytes}
use Rattle.tinyjambu.specs.Message.{message}
use Rattle.tinyjambu.specs.Mode.{seal}
use Rattle.tinyjambu.proofs.Histories.{whole_message}
use Rattle.tinyjambu.proofs.Messages.{limit_passed, room_passed}
use Rattle.tinyjambu.proofs.Sealing.{length-sealed_text, length-sealed_tag}
use Rattle.tinyjambu.proofs.Buffers.{written-tag, message_check-none}
use Rattle.tinyjambu.proofs.pieces.seal_pieces.Goals as goal

pub returns-clause-out : goal.returns-clause-out
returns-clause-out g c =
    let key : List ℕ = g.E.Engine.key c.args.engine.now in
    let n : List ℕ = word_bytes c.args.nonce in
    let ad : List ℕ = message c.args.ad.now in
    let t : List ℕ = message c.args.text.now in
    let out : List ℕ = c.args.out.now in
    let p = limit_passed (length ad) c.joined_len.result _ c.joined_len.ensures c.in_ok-check_limit.ensures in
    let q = limit_passed (length t) c.joined_len-len.result _ c.joined_len-len.ensures c.in_ok-check_limit-2.ensures in
    let room = room_passed (length out) (c.joined_len-len.result + 8) c.in_ok-check_room.ensures in
    let check = message_check-none (length ad) (length t) (length out) p.0 q.0 (omega arith) in
    let made = c.seal_texts.new.out in
    let walk = whole_message n ad t made c.begin-duplex.ensures c.absorb_pieces.ensures c.end_data.ensures.took
    c.seal_texts.ensures.took c.seal_texts.ensures.out c.seal_texts.ensures.same c.tag-tag.ensures.result in
    let tag = c.copy_from_slice.ensures.after ∙ walk.1 in
    let whole : made ++ c.copy_from_slice.new.self ≡ seal key n ad t = ap₂ ◌++◌ walk.0 tag ∙ take-append-drop (length t) (seal key n ad t) in
    written-tag made c.copy_from_slice.new.self out c.joined_len-len.result (ap length walk.0 ∙ length-sealed_text key n ad t ∙ sym q.1) (ap length tag ∙ length-sealed_tag key n ad t)
    ∙ ap (λ x. written x out) whole ∙ sym (ap (λ k. sealed_out k (seal key n ad t) out) check)
