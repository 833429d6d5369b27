-- requests_value: its loop; at each turn there are the values of the requests gone through.
use Rattle.std.proofs.Common.{◌≡◌, map}
use Rattle.serde_json.specs.View.{view}
use Rattle.cj_control.specs.Sent.{request_data}
use Rattle.cj_inspect.proofs.calls.values.requests_value.Given as goal

abbrev pub invariant-loop-request : goal.invariant-loop-request
invariant-loop-request l = map view l.values.items ≡ map request_data l.yielded
