use Rattle.std.proofs.Common.{subst, sym}
use Rattle.prof_spell.specs.Spelling.{IsTaken}
use Rattle.prof_spell.specs.Chains.{chains}
use Rattle.prof_spell.proofs.SequenceLemmas.{err_front, err_back, taken_pair}
use Rattle.prof_keep.specs.Saved.{SavedLists}
use Rattle.prof_keep.specs.Reading.{heads, digest_chain, after_digest, wholes}
use Rattle.prof_keep.proofs.DigestLemmas.{splits_digest}
use Rattle.prof_keep.proofs.SavedLemmas.{digests, head_meets, bytes_meet, splits_heads}
use Rattle.prof_keep.proofs.reading.whole.Goals as goal

pub returns-in-Err : goal.returns-in-Err
returns-in-Err c = err_front heads (λ head. digests head.0) c.args.cursor.now c.one_of.new.self c.in-Err.stop head_meets c.in-Err.ensures

pub returns-in-Err-digest : goal.returns-in-Err-digest
returns-in-Err-digest c = err_back heads (λ head. digests head.0) c.args.cursor.now c.one_of.new.self c.digest.new.cursor c.in-Ok.head c.in-Err-digest.stop head_meets splits_heads c.in-Ok.ensures
    (err_front (chains digest_chain 0) (λ digest. after_digest c.in-Ok.head.0) c.one_of.new.self c.digest.new.cursor c.in-Err-digest.stop (bytes_meet c.in-Ok.head.0) c.in-Err-digest.ensures)

pub returns-in-Ok-after_digest : goal.returns-in-Ok-after_digest
returns-in-Ok-after_digest c =
    let p = c.in-Ok-after_digest.parts in
    let d = c.in-Ok-digest.digest in
    subst (λ (s : SavedLists). IsTaken wholes c.args.cursor.now (c.in-Ok.head, (s.digest, (tt, (s.version, (tt, (s.place, (tt, s.views))))))) c.after_digest.new.cursor) (sym c.with_digest.ensures)
    (taken_pair heads (λ head. digests head.0) c.args.cursor.now c.one_of.new.self c.after_digest.new.cursor c.in-Ok.head (d, (tt, (p.0, (tt, (p.1.0, (tt, p.1.1.items)))))) head_meets c.in-Ok.ensures
    (taken_pair (chains digest_chain 0) (λ digest. after_digest c.in-Ok.head.0) c.one_of.new.self c.digest.new.cursor c.after_digest.new.cursor d (tt, (p.0, (tt, (p.1.0, (tt, p.1.1.items))))) (bytes_meet c.in-Ok.head.0) c.in-Ok-digest.ensures c.in-Ok-after_digest.ensures))

pub returns-in-Err-after_digest : goal.returns-in-Err-after_digest
returns-in-Err-after_digest c = err_back heads (λ head. digests head.0) c.args.cursor.now c.one_of.new.self c.after_digest.new.cursor c.in-Ok.head c.in-Err-after_digest.stop head_meets splits_heads c.in-Ok.ensures
    (err_back (chains digest_chain 0) (λ digest. after_digest c.in-Ok.head.0) c.one_of.new.self c.digest.new.cursor c.after_digest.new.cursor c.in-Ok-digest.digest c.in-Err-after_digest.stop (bytes_meet c.in-Ok.head.0) splits_digest c.in-Ok-digest.ensures c.in-Err-after_digest.ensures)
