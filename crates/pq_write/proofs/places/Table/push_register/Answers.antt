use Rattle.std.proofs.Common.{◌∷◌, [], ◌++◌, append_assoc, sym, ap, ◌∙◌, arith}
use Rattle.std.proofs.lemmas.List.FromFn.{map-range_with_len_more}
use Rattle.pq_text.specs.Print.{indexed}
use Rattle.pq_write.specs.Table.{texts_of}
use Rattle.pq_write.proofs.places.Table.push_register.Goals as goal

pub loop-index-preserved : goal.loop-index-preserved
loop-index-preserved c =
    let f = indexed c.as_bytes-name.result.now in
    let i = c.loop-index.index in
    record {
      laid = c.in_ok-push.ensures.laid;
      count = omega (arith, c.in_ok-push.ensures.count, c.loop-index.invariant.count);
      texts = c.in_ok-push.ensures.texts
          ∙ (ap (λ ts. ts ++ f i ∷ []) c.loop-index.invariant.texts
          ∙ (append_assoc (texts_of c.args.self.now) _ (f i ∷ []) ∙ ap (λ ts. texts_of c.args.self.now ++ ts) (sym (map-range_with_len_more f 0 i i (omega arith)))));
    }
