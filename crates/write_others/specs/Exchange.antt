-- The body of a ClientKeyExchange, written: RULES 7.4; RFC 5246 7.4.7.2, RFC 8422 5.4, 5.7. The
-- limit of the raw one, as that of Finished (RULES 7.5), is what a message's length can hold:
-- `head_text`.
use Rattle.std.specs.Prelude.{◌∷◌}
use Rattle.refusal.specs.{ℕ, List, [], Answer, accepted, refused, unplaced, BadLength, MayBe, Some, None}
use Rattle.wire.specs.{if_some, lookup}
use Rattle.field.specs.{sized, field_text}
use Rattle.write_rules.specs.{view_text, sized_text}
use Rattle.write_others.specs.declared.Form.{Form}
use Rattle.write_others.specs.declared.Form.TheVariants.{Raw, DiffieHellman, EllipticCurve}
use Rattle.message.specs.{TlsClientKeyExchangeContents, Dh, Ecdh, Unknown, raw_exchange, dh_exchange, ecdh_exchange}

abbrev pub exchange_text : List ℕ → TlsClientKeyExchangeContents → Answer (List ℕ)
exchange_text s (Unknown v) = view_text s v
exchange_text s (Dh v) = sized_text 2 s v
exchange_text s (Ecdh v) = sized_text 1 s v

-- a part handed over with the number of its form: as it is, or behind its length; BadLength with
-- any other number
abbrev pub form_text : ℕ → List ℕ → Answer (List ℕ)
form_text form p = if_some (lookup form ((raw_exchange, accepted p) ∷ (dh_exchange, field_text (sized 2) p) ∷ (ecdh_exchange, field_text (sized 1) p) ∷ [])) (λ t. t) (refused (unplaced BadLength))

-- the same of a form, and of one that a number may name
abbrev pub part_text : Form → List ℕ → Answer (List ℕ)
part_text Raw p = accepted p
part_text DiffieHellman p = field_text (sized 2) p
part_text EllipticCurve p = field_text (sized 1) p

abbrev pub told_text : MayBe Form → List ℕ → Answer (List ℕ)
told_text (Some form) p = part_text form p
told_text None p = refused (unplaced BadLength)
