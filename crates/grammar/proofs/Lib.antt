mod Lined
