-- Forms by their numbers.
use Rattle.std.proofs.Common.{◌≡◌, ℕ, eqb, cond, refl, sym, ap, ◌∙◌}
use Rattle.pq_lex.specs.declared.token.Form.{Form}
use Rattle.pq_lex.specs.declared.token.Form.TheVariants.{Word, Number, Quoted, Semicolon, Comma, LeftParenthesis, RightParenthesis, LeftBracket, RightBracket, LeftBrace, RightBrace, Plus, Minus, Star, Slash, Caret, Arrow, DoubleEqual, Missing, Malformed}
use Rattle.pq_lex.specs.Token.{number_of}

form_of : ℕ → Form
form_of n =
    cond (eqb n 0) Word (cond (eqb n 1) Number (cond (eqb n 2) Quoted (cond (eqb n 3) Semicolon (cond (eqb n 4) Comma
    (cond (eqb n 5) LeftParenthesis (cond (eqb n 6) RightParenthesis (cond (eqb n 7) LeftBracket (cond (eqb n 8) RightBracket
    (cond (eqb n 9) LeftBrace (cond (eqb n 10) RightBrace (cond (eqb n 11) Plus (cond (eqb n 12) Minus (cond (eqb n 13) Star
    (cond (eqb n 14) Slash (cond (eqb n 15) Caret (cond (eqb n 16) Arrow (cond (eqb n 17) DoubleEqual (cond (eqb n 18) Missing Malformed))))))))))))))))))

form_of-number_of : (f : Form) → form_of (number_of f) ≡ f
unfolding form_of
form_of-number_of Word = refl
form_of-number_of Number = refl
form_of-number_of Quoted = refl
form_of-number_of Semicolon = refl
form_of-number_of Comma = refl
form_of-number_of LeftParenthesis = refl
form_of-number_of RightParenthesis = refl
form_of-number_of LeftBracket = refl
form_of-number_of RightBracket = refl
form_of-number_of LeftBrace = refl
form_of-number_of RightBrace = refl
form_of-number_of Plus = refl
form_of-number_of Minus = refl
form_of-number_of Star = refl
form_of-number_of Slash = refl
form_of-number_of Caret = refl
form_of-number_of Arrow = refl
form_of-number_of DoubleEqual = refl
form_of-number_of Missing = refl
form_of-number_of Malformed = refl

-- a form is known by its number
pub same_form : (f g : Form) → number_of f ≡ number_of g → f ≡ g
same_form f g e = sym (form_of-number_of f) ∙ (ap form_of e ∙ form_of-number_of g)
