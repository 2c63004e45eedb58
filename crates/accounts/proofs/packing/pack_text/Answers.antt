use Rattle.std.proofs.Common.{vec_items, sym, subst}
use Rattle.std.proofs.lemmas.Result.{err_from_is_err_and}
use Rattle.texts.specs.Said.{figures}
use Rattle.accounts.specs.Packings.{PacksText}
use Rattle.accounts.proofs.Said.{text_failed, pack_failed, text_packed}
use Rattle.accounts.proofs.packing.pack_text.Goals as goal

pub returns-in_err-sheet : goal.returns-in_err-sheet
returns-in_err-sheet c =
    let p = err_from_is_err_and c.from_residual.result c.from_residual.ensures.1 in
    subst (PacksText c.args.text.now) (sym p.1) (text_failed c.args.text.now _ p.0 p.2 c.in_err-sheet.ensures)

pub returns-in_err-pack : goal.returns-in_err-pack
returns-in_err-pack c =
    let p = err_from_is_err_and c.from_residual-in_err-pack.result c.from_residual-in_err-pack.ensures.1 in
    subst (PacksText c.args.text.now) (sym p.1)
    (pack_failed c.args.text.now (figures c.in_ok-sheet.sheet) c.in_ok-sheet.ensures c.deref.result.now _ p.0 c.deref.ensures.value p.2 c.in_err-pack.ensures.made)

pub returns : goal.returns
returns c =
    text_packed c.args.text.now (figures c.in_ok-sheet.sheet) c.in_ok-sheet.ensures c.deref.result.now (vec_items c.in_ok-pack.field-0) c.deref.ensures.value c.in_ok-pack.ensures.lawful c.in_ok-pack.ensures.made
