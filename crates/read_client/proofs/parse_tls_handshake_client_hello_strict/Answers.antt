-- `read_client::parse_tls_handshake_client_hello_strict` meets its contract: what the plain reader
-- found, held to the three conditions. Assumes nothing.
use mathlib.Core.Path.{sym, ap, ◌∙◌}
use Rattle.std.specs.Prelude.{Err}
use Rattle.refusal.specs.Answers.{refused, as_answer}
use Rattle.refusal.proofs.Told.{case, hands_on}
use Rattle.read_client.proofs.Strict.{strict_demand3, begins, by_case}
use Rattle.read_client.proofs.parse_tls_handshake_client_hello_strict.Goals as goal

pub returns-in_err-c : goal.returns-in_err-c
returns-in_err-c c =
    let d = strict_demand3 _ (λ n. (c.type_inv.i n).fits) in
    record {
      result_value = hands_on _ c.from_residual.ensures (sym (d.plain_first _
          (case as_answer c.parse_tls_handshake_client_hello.ensures.result_value c.in_err-c.was)));
      by_exact_split = d;
    }

pub overflow_sub-c : goal.overflow_sub-c
overflow_sub-c c =
    (begins _ (λ n. (c.type_inv.i n).fits) _
    (case as_answer c.parse_tls_handshake_client_hello.ensures.result_value c.in_ok-c.was)).0

pub overflow_sub-c-in-Err-NoMethods : goal.overflow_sub-c-in-Err-NoMethods
overflow_sub-c-in-Err-NoMethods c =
    (begins _ (λ n. (c.type_inv.i n).fits) _
    (case as_answer c.parse_tls_handshake_client_hello.ensures.result_value c.in_ok-c.was)).1

pub returns-in-Ok : goal.returns-in-Ok
returns-in-Ok c =
    record {
      result_value = by_case _ (λ n. (c.type_inv.i n).fits) c.parse_tls_handshake_client_hello.ensures.result_value
          c.in_ok-c.was c.exactness.ensures c.in-Ok.is;
      by_exact_split = strict_demand3 _ (λ n. (c.type_inv.i n).fits);
    }

pub returns-in-Err-NoCiphers : goal.returns-in-Err-NoCiphers
returns-in-Err-NoCiphers c =
    record {
      result_value = ap refused c.not_exact.ensures
          ∙ by_case _ (λ n. (c.type_inv.i n).fits) c.parse_tls_handshake_client_hello.ensures.result_value
          c.in_ok-c.was c.exactness.ensures (c.in-Err-NoCiphers.is ∙ ap Err c.in-Err-NoCiphers.field-0-is);
      by_exact_split = strict_demand3 _ (λ n. (c.type_inv.i n).fits);
    }

pub returns-in-Err-NoMethods : goal.returns-in-Err-NoMethods
returns-in-Err-NoMethods c =
    record {
      result_value = ap refused c.not_exact-in-Err-NoMethods.ensures
          ∙ by_case _ (λ n. (c.type_inv.i n).fits) c.parse_tls_handshake_client_hello.ensures.result_value
          c.in_ok-c.was c.exactness.ensures (c.in-Err-NoMethods.is ∙ ap Err c.in-Err-NoMethods.field-0-is);
      by_exact_split = strict_demand3 _ (λ n. (c.type_inv.i n).fits);
    }

pub returns-in-Err-HasTail : goal.returns-in-Err-HasTail
returns-in-Err-HasTail c =
    record {
      result_value = ap refused c.not_exact-in-Err-HasTail.ensures
          ∙ by_case _ (λ n. (c.type_inv.i n).fits) c.parse_tls_handshake_client_hello.ensures.result_value
          c.in_ok-c.was c.exactness.ensures (c.in-Err-HasTail.is ∙ ap Err c.in-Err-HasTail.field-0-is);
      by_exact_split = strict_demand3 _ (λ n. (c.type_inv.i n).fits);
    }
