-- Replies as a program holds them.
pub use Rattle.step_list.specs.HeldReplies.{IsHeldValue, IsHeldReply}
